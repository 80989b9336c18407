-- A data entity, pull by pull.
use Rattle.std.proofs.Common.{◌≡◌, ◌≤◌, ◌⊎◌, inl, inr, ℕ, List, [], ◌∷◌, ◌++◌, length, Option, None, Some, refl, sym, ap, ◌∙◌, subst, append_assoc, arith}
use Rattle.qm_core.specs.Code.{stuffed}
use Rattle.qm_core.specs.Source.{bytes_of, heard_of, IsClosed, Pulls, Gives}
use Rattle.qm_core.specs.declared.source.Pulled.{Pulled}
use Rattle.qm_core.specs.declared.source.Pulled.TheVariants.{Byte, End, Fault}
use Rattle.qm_core.specs.declared.source.Heard.{Heard}
use Rattle.qm_core.specs.declared.source.Heard.TheVariants.{More, Ended, Stopped}
use Rattle.t85_core.specs.declared.segments.Code.{Code}
use Rattle.t85_core.specs.Private.Entity.{EntityView, GivesByte, GivesEnd, GivesFault, StopsAtMarker, EntityGives}
use Rattle.t85_core.proofs.BytesJoin.CodesAreStuffed.{stuffed_append}

-- ---- pulls

-- the code went on over these bytes
pub record WentOn (s t : EntityView) (bytes : List ℕ) : Type 0 where
  pub taken : s.left ≡ stuffed bytes ++ t.left
  pub marker : t.marker ≡ None
  pub fault : t.fault ≡ None
  pub begun : ((1 ≤ length bytes) × (t.first ≡ None)) ⊎ ((bytes ≡ []) × (t.first ≡ s.first))
  pub waits : t.waits ≡ s.waits

-- what the last answer was, after the bytes
abbrev pub LastIs : {T : Type 0} → (T → EntityView) → T → Heard → T → Type 0
LastIs standing mid More t = mid ≡ t
LastIs standing mid Ended t = GivesEnd (standing mid) (standing t)
LastIs standing mid Stopped t = GivesFault (standing mid) (standing t) ⊎ StopsAtMarker (standing mid) (standing t)

-- answers are bytes, and then nothing, an end or a fault
pub record Parted {T : Type 0} (standing : T → EntityView) (s : T) (answers : List Pulled) (t : T) : Type 0 where
  pub mid : T
  pub went : WentOn (standing s) (standing mid) (bytes_of answers)
  pub last : LastIs standing mid (heard_of answers) t

module _ {T : Type 0} (standing : T → EntityView) (failed : T → ℕ) where
  abbrev pub Pull : T → Pulled → T → Type 0
  Pull = Pulls (λ a x b. EntityGives (standing a) x (standing b)) failed

  stays : (s : T) → (standing s).marker ≡ None → (standing s).fault ≡ None → WentOn (standing s) (standing s) []
  stays s marker fault = record { taken = refl; marker = marker; fault = fault; begun = inr (refl, refl); waits = refl }

  pub pulls_part : (answers : List Pulled) (s t : T) → IsClosed answers → (standing s).marker ≡ None → (standing s).fault ≡ None → Gives Pull s answers t → Parted standing s answers t
  pulls_part [] s t closed marker fault gives = record { mid = s; went = stays s marker fault; last = gives }
  pulls_part (Byte b ∷ answers) s t closed marker fault gives =
      let next : T = gives.0 in
      let here : GivesByte (standing s) (standing next) b = gives.1.step.gives marker fault in
      let rest = pulls_part answers next t closed here.marker here.fault gives.2 in
      record {
        mid = rest.mid;
        went = record {
          taken = here.taken ∙ ap (λ z. stuffed (b ∷ []) ++ z) rest.went.taken ∙ sym (append_assoc (stuffed (b ∷ [])) (stuffed (bytes_of answers)) (standing rest.mid).left)
              ∙ ap (λ z. z ++ (standing rest.mid).left) (sym (stuffed_append (b ∷ []) (bytes_of answers)));
          marker = rest.went.marker;
          fault = rest.went.fault;
          begun = inl (omega arith, first_none (standing rest.mid).first (standing next).first rest.went.begun here.begun);
          waits = rest.went.waits ∙ gives.1.step.same_waits;
        };
        last = rest.last;
      } where
        first_none : (t s : Option Code) → ((1 ≤ length (bytes_of answers)) × (t ≡ None)) ⊎ ((bytes_of answers ≡ []) × (t ≡ s)) → s ≡ None → t ≡ None
        first_none t s (inl e) none = e.1
        first_none t s (inr e) none = e.1 ∙ none
  pulls_part (End ∷ []) s t closed marker fault gives = record {
    mid = s;
    went = stays s marker fault;
    last = subst (λ z. GivesEnd (standing s) (standing z)) gives.2 (gives.1.step.gives marker fault);
  }
  pulls_part (End ∷ x ∷ answers) s t closed marker fault gives = absurd (let bot : ⊥ = cc in bot)
  pulls_part (Fault ∷ []) s t closed marker fault gives = record {
    mid = s;
    went = stays s marker fault;
    last = subst (λ z. GivesFault (standing s) (standing z) ⊎ StopsAtMarker (standing s) (standing z)) gives.2 (gives.1.step.gives marker fault);
  }
  pulls_part (Fault ∷ x ∷ answers) s t closed marker fault gives = absurd (let bot : ⊥ = cc in bot)

pub none_of : {X : Type 0} (m : Option X) → ((x : X) → m ≡ Some x → ⊥) → m ≡ None
none_of None h = refl
none_of (Some x) h = absurd (h x refl)
