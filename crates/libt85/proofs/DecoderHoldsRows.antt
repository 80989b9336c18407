-- The rows of a decoder that a C caller holds.
use Rattle.std.proofs.Common.{◌≡◌, ◌≤◌, ◌<◌, ◌+◌, ◌*◌, ◌⊎◌, inl, inr, ℕ, suc, Bool, List, [], ◌++◌, length, take, drop, Some, refl, sym, ap, subst, ◌∙◌, arith, append-nil, take-append-drop}
use Rattle.std.proofs.lemmas.List.{length-drop, length-take-le}
use Rattle.std.proofs.Math.Nat.{mul-le-mul_right, suc-mul}
use Rattle.std.specs.Int.{div_ceil}
use Rattle.qm_core.specs.Place.{Estimate}
use Rattle.raster_core.specs.Packed.{Held, rows_at}
use Rattle.raster_core.specs.declared.window.Window.{Window}
use Rattle.t85_core.specs.declared.fault.Fault.{Fault}
use Rattle.t85_core.specs.declared.header.Header.{Header}
use Rattle.t85_core.specs.declared.pieces.PieceDecoder.{PieceDecoder}
use Rattle.t85_core.specs.declared.pieces.Progress.{Progress}
use Rattle.t85_core.specs.Header.{HeaderOf, header_fault}
use Rattle.t85_core.specs.Laws.{HeaderLaws}
use Rattle.t85_core.specs.Lent.{decoder_over, decoder_view}
use Rattle.t85_core.specs.Numbers.{ArePieceNumbers}
use Rattle.t85_core.specs.Options.{fields_of}
use Rattle.t85_core.specs.Feeds.{HasFed, IsFeed}
use Rattle.t85_core.specs.Pieces.{HasDecoded, call_of as piece_call}
use Rattle.libt85.specs.Decoded.{window_bytes}
use Rattle.libt85.specs.Decoder.{IsShort, StandAt}
use Rattle.libt85.specs.DecoderState.{CountsRows, HasRead, Hold, InRows, bytes_held_by, hold_of}
use Rattle.libt85.specs.DecoderSteps.{ContinuesRows, CountsOneMore, IsResumed}
use Rattle.libt85.specs.declared.decoder.T85Decoder.{T85Decoder}
use Rattle.libt85.proofs.WindowCoversMemory.{IsOver, rows_whole, window_rows}
use Rattle.libt85.proofs.DecoderReadsHeader.{behind_header, in_rows, not_some}

-- ---- the rows

none_times : (w : ℕ) → 0 * w ≡ 0
none_times w = grind arith

-- a struct among the rows has the engine's decoder, and the memory is that of its window
pub record IsStored (d : T85Decoder) (header : Header) (e : PieceDecoder) (window : Window) (learned : List Estimate) (memory : List ℕ) : Type 0 where
  pub version_is : d.version ≡ 2
  pub next_is : d.next ≡ 2
  pub place_to : d.place < 3
  pub header_is : e.image.header ≡ header
  pub header_of : HeaderOf d.header (fields_of header)
  pub long : length memory ≡ window_bytes header.xd
  pub over : IsOver window d.place header.xd memory
  pub learned_is : d.learned ≡ learned

-- a decoder with the same rows, contexts and output by other names
pub decoded_as : {rows rows' : Held} {learned learned' : List Estimate} {text out out' : List ℕ} (e : PieceDecoder) → rows' ≡ rows → learned' ≡ learned → out' ≡ out →
    HasDecoded (decoder_view e rows learned) text out → HasDecoded (decoder_view e rows' learned') text out'
decoded_as e at taught same has = rw (at, taught, same) has

-- they begin behind the header
pub rows_entered : {old new : T85Decoder} {memory memory' : List ℕ} {header : Header} {e : PieceDecoder} {window : Window} {learned : List Estimate} {stream out : List ℕ} → old.next ≡ 1 →
    IsStored new header e window learned memory' → new.header ≡ old.header → HasDecoded (decoder_over e window learned) [] [] → bytes_held_by new ≡ [] → new.given ≡ 0 →
    HasRead (hold_of old memory) stream out → ContinuesRows header e (hold_of new memory') stream out
rows_entered {old} {new} {memory} {memory'} {header} {e} {stream = stream} {out} next s head has held_is none read =
    let was = behind_header (hold_of old memory) stream out next read in
    record {
      count_is = ap length was.out_is ∙ sym (ap (λ n. n * div_ceil header.xd 8) none ∙ none_times (div_ceil header.xd 8));
      text = [];
      stream_is = was.stream_is ∙ sym head ∙ sym (append-nil new.header);
      has = record {
        decoded = [];
        text_is = sym held_is;
        has = decoded_as e (sym (window_rows s.over)) s.learned_is was.out_is has;
      };
    }

-- they go on with a decoder that was resumed
pub rows_resumed : {d : T85Decoder} {memory : List ℕ} {header : Header} {e : PieceDecoder} → HeaderLaws → HeaderOf d.header (fields_of header) → length memory ≡ window_bytes header.xd →
    IsResumed header e d →
    (stream out : List ℕ) → CountsRows (hold_of d memory) stream out → ContinuesRows header e (hold_of d memory) stream out
rows_resumed {d} {memory} {header} {e} laws header_of long resumes stream out k =
    let same = laws.one d.header (fields_of k.rows.decoder.image.header) (fields_of header) k.rows.header_of header_of in
    let wide : k.rows.decoder.image.header.xd ≡ header.xd = ap (λ f. f.xd) same in
    record {
      text = k.rows.text;
      stream_is = k.rows.stream_is;
      has = record {
        decoded = k.rows.has.decoded;
        text_is = k.rows.has.text_is;
        has = resumes k.rows.decoder (rows_at d.place header.xd memory) d.learned k.rows.has.decoded out
            (decoded_as k.rows.decoder (sym (rows_whole d.place memory (sym wide) long)) refl refl k.rows.has.has) same k.rows.numbers_are;
      };
      count_is = rw wide at k.count_is;
    }

-- a call with windows by other names
pub call_in : {rows to rows' to' : Held} {learned learned' : List Estimate} {held held' bytes : List ℕ} {is_all : Bool} {progress : Progress} (e e' : PieceDecoder) → rows ≡ to → rows' ≡ to' →
    IsFeed (decoder_view e rows learned) held held' (piece_call bytes is_all progress (decoder_view e' rows' learned')) →
    IsFeed (decoder_view e to learned) held held' (piece_call bytes is_all progress (decoder_view e' to' learned'))
call_in e e' before after call = rw (← before, ← after) call

-- behind a header that is refused no decoder stands
pub none_refused : HeaderLaws → (hold : Hold) (fault : Fault) (stream out : List ℕ) → (hold.decoder.next ≡ 1) ⊎ (hold.decoder.next ≡ 2) → header_fault hold.decoder.header ≡ Some fault →
    HasRead hold stream out → ⊥
none_refused laws hold fault stream out (inl e) refused has =
    let was = behind_header hold stream out e has in
    not_some fault (sym (laws.not_refused hold.decoder.header was.header was.header_of) ∙ refused)
none_refused laws hold fault stream out (inr e) refused has =
    let was = in_rows hold stream out e has in
    not_some fault (sym (laws.not_refused hold.decoder.header (fields_of was.decoder.image.header) was.header_of) ∙ refused)

-- and the stream of a decoder behind its header begins with that
pub short_of : HeaderLaws → (hold : Hold) (header : Header) (stream out : List ℕ) → (hold.decoder.next ≡ 1) ⊎ (hold.decoder.next ≡ 2) → HeaderOf hold.decoder.header (fields_of header) →
    length hold.window < window_bytes header.xd → HasRead hold stream out → IsShort hold.window stream
short_of laws hold header stream out (inl e) header_of short has =
    record { header = fields_of header; header_of = rw (behind_header hold stream out e has).stream_is header_of; short = short }
short_of laws hold header stream out (inr e) header_of short has =
    let was = in_rows hold stream out e has in
    record { header = fields_of header; header_of = rw was.stream_is (laws.stands hold.decoder.header was.text (fields_of header) header_of); short = short }

-- the row at a place of a window's memory
placed_fits : (long place : ℕ) (memory : List ℕ) → place < 3 → length memory ≡ 3 * long → place * long + long ≤ length memory
placed_fits long place memory small whole = rw (whole, ← suc-mul place long) (mul-le-mul_right {m = suc place} {n = 3} long small)

pub placed_within : (long place : ℕ) (memory : List ℕ) → place < 3 → length memory ≡ 3 * long → length (take long (drop (place * long) memory)) ≡ long
placed_within long place memory small whole = length-take-le long (drop (place * long) memory) (rw (length-drop (place * long) memory) (omega (arith, placed_fits long place memory small whole)))

pub stands_placed : (long place at : ℕ) (memory : List ℕ) → place < 3 → length memory ≡ 3 * long → at ≡ place * long →
    StandAt at (take long (drop (place * long) memory)) memory
stands_placed long place at memory small whole is = record {
  front = take (place * long) memory;
  back = drop long (drop (place * long) memory);
  others_are = sym (take-append-drop (place * long) memory) ∙ ap (λ m. take (place * long) memory ++ m) (sym (take-append-drop long (drop (place * long) memory)));
  place_is = length-take-le (place * long) memory (omega (arith, placed_fits long place memory small whole)) ∙ sym is;
}

-- a count of one more row
pub one_more : (out row given given' w : ℕ) → out ≡ given * w → row ≡ w → given' ≡ given + 1 → out + row ≡ given' * w
one_more out row given given' w all one more =
    let next : given' ≡ suc given = omega (arith, more) in
    let sum : suc given * w ≡ given * w + w = suc-mul given w in
    let is : given' * w ≡ suc given * w = ap (λ n. n * w) next in
    omega (arith, all, one, sum, is)

-- a struct has the same rows
pub record KeepsRows (d d' : T85Decoder) : Type 0 where
  pub version : d'.version ≡ d.version
  pub next : d'.next ≡ d.next
  pub header : d'.header ≡ d.header
  pub learned : d'.learned ≡ d.learned
  pub place : d'.place ≡ d.place
  pub numbers : d'.numbers ≡ d.numbers
  pub held : bytes_held_by d' ≡ bytes_held_by d

pub one_moved : {d d' : T85Decoder} → CountsOneMore d d' → KeepsRows d d'
one_moved c = record { version = c.version; next = c.next; header = c.header; learned = c.learned; place = c.place; numbers = c.numbers; held = c.held }

unfoldable pub rows_moved : {d d' : T85Decoder} {memory stream out : List ℕ} → KeepsRows d d' → InRows (hold_of d memory) stream out → InRows (hold_of d' memory) stream out
rows_moved {d} {d'} {memory} same k = record {
  version_is = same.version ∙ k.version_is;
  next_is = same.next ∙ k.next_is;
  place_to = rw same.place k.place_to;
  decoder = k.decoder;
  header_of = rw same.header k.header_of;
  numbers_are = subst (λ n. ArePieceNumbers n k.decoder) (sym same.numbers) k.numbers_are;
  text = k.text;
  stream_is = k.stream_is ∙ ap (λ h. h ++ k.text) (sym same.header);
  has = record {
    decoded = k.has.decoded;
    text_is = k.has.text_is ∙ ap (λ b. k.has.decoded ++ b) (sym same.held);
    has = decoded_as k.decoder (ap (λ p. rows_at p k.decoder.image.header.xd (take (window_bytes k.decoder.image.header.xd) memory)) same.place) same.learned refl k.has.has;
  };
}

-- a decoder with the same rows, contexts and stored bytes by other names
pub fed_as : {rows rows' : Held} {learned learned' : List Estimate} {held held' text out : List ℕ} (e : PieceDecoder) → rows' ≡ rows → learned' ≡ learned → held' ≡ held →
    HasFed (decoder_view e rows learned) held text out → HasFed (decoder_view e rows' learned') held' text out
fed_as e at taught same has = rw (at, taught, same) has
