-- Elements of lists, by their places.
use Rattle.std.proofs.Common.{◌≡◌, ℕ, zero, suc, ◌+◌, ◌<◌, ◌≤◌, List, [], ◌∷◌, ◌++◌, length, map, take, drop, refl, sym, ◌∙◌, ap, arith, length-append}
use Rattle.std.specs.Prelude.{slice_index_or}
use Rattle.std.specs.List.{AllByRecursion}

pub get_left : {X : Type 0} (xs ys : List X) (i : ℕ) (d : X) → i < length xs → slice_index_or (xs ++ ys) i d ≡ slice_index_or xs i d
get_left [] ys i d h = absurd (omega arith)
get_left (x ∷ xs) ys zero d h = refl
get_left (x ∷ xs) ys (suc i) d h = get_left xs ys i d (omega arith)

pub get_right : {X : Type 0} (xs ys : List X) (i : ℕ) (d : X) → slice_index_or (xs ++ ys) (length xs + i) d ≡ slice_index_or ys i d
get_right [] ys i d = let e : zero + i ≡ i = omega arith in ap (λ z. slice_index_or ys z d) e
get_right (x ∷ xs) ys i d =
    let e : length (x ∷ xs) + i ≡ suc (length xs + i) = omega arith in
    ap (λ z. slice_index_or (x ∷ (xs ++ ys)) z d) e ∙ get_right xs ys i d

pub get_here : {X : Type 0} (xs : List X) (x : X) (ys : List X) (d : X) → slice_index_or (xs ++ x ∷ ys) (length xs) d ≡ x
get_here [] x ys d = refl
get_here (y ∷ xs) x ys d = get_here xs x ys d

pub all_at : {X : Type 0} (P : X → Type 0) (xs : List X) (i : ℕ) (d : X) → AllByRecursion P xs → i < length xs → P (slice_index_or xs i d)
all_at P [] i d h lt = absurd (omega arith)
all_at P (x ∷ xs) zero d h lt = h.0
all_at P (x ∷ xs) (suc i) d h lt = all_at P xs i d h.1 (omega arith)

pub all_left : {X : Type 0} (P : X → Type 0) (xs ys : List X) → AllByRecursion P (xs ++ ys) → AllByRecursion P xs
all_left P [] ys h = tt
all_left P (x ∷ xs) ys h = (h.0, all_left P xs ys h.1)

pub all_right : {X : Type 0} (P : X → Type 0) (xs ys : List X) → AllByRecursion P (xs ++ ys) → AllByRecursion P ys
all_right P [] ys h = h
all_right P (x ∷ xs) ys h = all_right P xs ys h.1

pub length-push : {X : Type 0} (xs : List X) (x : X) → length (xs ++ x ∷ []) ≡ suc (length xs)
length-push xs x = let e = length-append xs (x ∷ []) in omega arith

pub map_push : {X Y : Type 0} (f : X → Y) (xs : List X) (x : X) (ys : List X) → map f (xs ++ x ∷ ys) ≡ map f xs ++ f x ∷ map f ys
map_push f [] x ys = refl
map_push f (z ∷ xs) x ys = rw (map_push f xs x ys)

-- lists with the same elements are the same
pub same_list : {X : Type 0} (d : X) (a b : List X) → length a ≡ length b → ((i : ℕ) → i < length a → slice_index_or a i d ≡ slice_index_or b i d) → a ≡ b
same_list d [] [] l h = refl
same_list d [] (y ∷ b) l h = absurd (omega arith)
same_list d (x ∷ a) [] l h = absurd (omega arith)
same_list d (x ∷ a) (y ∷ b) l h =
    let l' : length a ≡ length b = omega arith in
    let first = h 0 (omega arith) in
    let rest = same_list d a b l' (λ i lt. h (suc i) (omega arith)) in
    ap (λ u. u ∷ a) first ∙ ap (λ u. y ∷ u) rest

-- a longer list with the same first elements
pub longer_is : {X : Type 0} (d : X) (a b : List X) → length a < length b → ((i : ℕ) → i < length a → slice_index_or a i d ≡ slice_index_or b i d) →
    (x : X) × (rest : List X) × (b ≡ a ++ x ∷ rest)
longer_is d [] [] l h = absurd (omega arith)
longer_is d [] (y ∷ b) l h = (y, b, refl)
longer_is d (x ∷ a) [] l h = absurd (omega arith)
longer_is d (x ∷ a) (y ∷ b) l h =
    let first = h 0 (omega arith) in
    let r = longer_is d a b (omega arith) (λ i lt. h (suc i) (omega arith)) in
    (r.0, r.1, ap (λ u. y ∷ u) r.2 ∙ ap (λ u. u ∷ (a ++ r.0 ∷ r.1)) (sym first))

pub split_at : {X : Type 0} (n : ℕ) (xs : List X) → n ≤ length xs → (take n xs ++ drop n xs ≡ xs) × (length (take n xs) ≡ n)
split_at zero xs h = (refl, refl)
split_at (suc n) [] h = absurd (omega arith)
split_at (suc n) (x ∷ xs) h = let r = split_at n xs (omega arith) in (ap (λ u. x ∷ u) r.0, ap suc r.1)

-- ---- a part of a list

-- from place n on, the elements of a list are those of another
abbrev pub Continues : {X : Type 0} → X → List X → ℕ → List X → Type 0
Continues d all n part = (k : ℕ) → k < length part → slice_index_or all (n + k) d ≡ slice_index_or part k d

pub continues_left : {X : Type 0} (d : X) (all : List X) (n : ℕ) (xs ys : List X) → Continues d all n (xs ++ ys) → Continues d all n xs
continues_left d all n xs ys h k lt = let e = length-append xs ys in h k (omega arith) ∙ get_left xs ys k d lt

pub continues_right : {X : Type 0} (d : X) (all : List X) (n : ℕ) (xs ys : List X) → Continues d all n (xs ++ ys) → Continues d all (n + length xs) ys
continues_right d all n xs ys h k lt =
    let e = length-append xs ys in
    let at : (n + length xs) + k ≡ n + (length xs + k) = omega arith in
    ap (λ z. slice_index_or all z d) at ∙ h (length xs + k) (omega arith) ∙ get_right xs ys k d

pub continues_first : {X : Type 0} (d : X) (all : List X) (n : ℕ) (x : X) (xs : List X) → Continues d all n (x ∷ xs) → slice_index_or all n d ≡ x
continues_first d all n x xs h = let at : n ≡ n + 0 = omega arith in ap (λ z. slice_index_or all z d) at ∙ h 0 (omega arith)

pub continues_rest : {X : Type 0} (d : X) (all : List X) (n : ℕ) (x : X) (xs : List X) → Continues d all n (x ∷ xs) → Continues d all (n + 1) xs
continues_rest d all n x xs h k lt =
    let at : (n + 1) + k ≡ n + suc k = omega arith in
    ap (λ z. slice_index_or all z d) at ∙ h (suc k) (omega arith)

pub continues_all : {X : Type 0} (d : X) (all : List X) → Continues d all 0 all
continues_all d all k lt = let at : 0 + k ≡ k = omega arith in ap (λ z. slice_index_or all z d) at
