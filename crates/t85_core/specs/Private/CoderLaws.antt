-- The laws of the coder that the laws of streams use.
use Rattle.qm_core.specs.Laws.{OnePixelAlways, OnlyPixel, FirstBytesDecide, PixelKeepsPlace, EventsKeepPlace, EventsStayInside, AnswersLie, OneCode, CodeLies, CodeLiesInAll, PushedIsFront, StuffedAppend, FewPushed, FewInFront, FewToEnd}
use Rattle.qm_core.specs.Place.{start, IsPlace}

pub record CoderLaws : Type 0 where
  pub one_pixel : OnePixelAlways
  pub only_pixel : OnlyPixel
  pub decided : FirstBytesDecide
  pub pixel_keeps_place : PixelKeepsPlace
  pub events_keep_place : EventsKeepPlace
  pub events_stay_inside : EventsStayInside
  pub answers_lie : AnswersLie

pub record WritingLaws : Type 0 where
  pub start_is_place : IsPlace start
  pub events_keep_place : EventsKeepPlace
  pub one_code : OneCode
  pub code_lies : CodeLies
  pub code_lies_in_all : CodeLiesInAll
  pub pushed_is_front : PushedIsFront
  pub stuffed_append : StuffedAppend
  pub few_pushed : FewPushed
  pub few_in_front : FewInFront
  pub few_to_end : FewToEnd
