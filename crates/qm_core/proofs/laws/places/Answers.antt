use Rattle.qm_core.proofs.OnePixelKeepsCode.{step-IsPlace, after-IsPlace, after-inside}
use Rattle.qm_core.proofs.laws.places.Goals as goal

pub returns-clause-pixel_keeps_place : goal.returns-clause-pixel_keeps_place
returns-clause-pixel_keeps_place c = step-IsPlace

pub returns-clause-events_keep_place : goal.returns-clause-events_keep_place
returns-clause-events_keep_place c = after-IsPlace

pub returns-clause-events_stay_inside : goal.returns-clause-events_stay_inside
returns-clause-events_stay_inside c = after-inside
