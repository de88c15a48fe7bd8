-- Lists in which no number stands twice, after a number is put in or taken out.
use Rattle.std.proofs.Common.{◌≡◌, ℕ, zero, suc, ◌<◌, List, [], ◌∷◌, ◌++◌, length, get_or, take, drop, sym, arith}
use Rattle.std.specs.List.{AllByRecursion, insert, remove}
use Rattle.std.proofs.ByRecursion.{All-append, All-take, All-drop, All-get_or}
use Rattle.buffer.specs.Memory.{Distinct}

-- a number stands nowhere in a list
abbrev pub Lacks : ℕ → List ℕ → Type 0
Lacks x xs = AllByRecursion (λ y. x ≡ y → ⊥) xs

pub all_inserted : {X : Type 0} (P : X → Type 0) (xs : List X) (k : ℕ) (x : X) → P x → AllByRecursion P xs → AllByRecursion P (insert xs k x)
all_inserted P xs zero x p h = (p, h)
all_inserted P [] (suc k) x p h = (p, h)
all_inserted P (y ∷ ys) (suc k) x p h = (h.0, all_inserted P ys k x p h.1)

pub all_removed : {X : Type 0} (P : X → Type 0) (xs : List X) (k : ℕ) → AllByRecursion P xs → AllByRecursion P (remove xs k)
all_removed P xs k h = All-append P (take k xs) (drop (suc k) xs) (All-take P k xs h) (All-drop P (suc k) xs h)

pub distinct_inserted : (xs : List ℕ) (k x : ℕ) → Lacks x xs → Distinct xs → Distinct (insert xs k x)
unfolding Distinct
distinct_inserted xs zero x h d = (h, d)
distinct_inserted [] (suc k) x h d = (h, d)
distinct_inserted (y ∷ ys) (suc k) x h d =
    (all_inserted (λ z. y ≡ z → ⊥) ys k x (λ e. h.0 (sym e)) d.0, distinct_inserted ys k x h.1 d.1)

pub distinct_removed : (xs : List ℕ) (k : ℕ) → Distinct xs → Distinct (remove xs k)
unfolding Distinct
distinct_removed [] zero d = tt
distinct_removed [] (suc k) d = tt
distinct_removed (y ∷ ys) zero d = d.1
distinct_removed (y ∷ ys) (suc k) d = (all_removed (λ z. y ≡ z → ⊥) ys k d.0, distinct_removed ys k d.1)

-- what was taken out of such a list stands in it no more
pub removed_lacks : (xs : List ℕ) (k : ℕ) → k < length xs → Distinct xs → Lacks (get_or xs k 0) (remove xs k)
unfolding Distinct
removed_lacks [] k h d = absurd (omega arith)
removed_lacks (y ∷ ys) zero h d = d.0
removed_lacks (y ∷ ys) (suc k) h d =
    let l : k < length ys = omega arith in
    (λ e. All-get_or (λ z. y ≡ z → ⊥) ys k 0 l d.0 (sym e), removed_lacks ys k l d.1)

pub distinct-take : (n : ℕ) (xs : List ℕ) → Distinct xs → Distinct (take n xs)
unfolding Distinct
distinct-take zero xs d = tt
distinct-take (suc n) [] d = tt
distinct-take (suc n) (x ∷ xs) d = (All-take (λ z. x ≡ z → ⊥) n xs d.0, distinct-take n xs d.1)

pub distinct_push : (xs : List ℕ) (x : ℕ) → Lacks x xs → Distinct xs → Distinct (xs ++ (x ∷ []))
unfolding Distinct
distinct_push [] x h d = (tt, tt)
distinct_push (y ∷ ys) x h d =
    (All-append (λ z. y ≡ z → ⊥) ys (x ∷ []) d.0 (λ e. h.0 (sym e), tt), distinct_push ys x h.1 d.1)

all_last : {X : Type 0} (P : X → Type 0) (xs : List X) (x : X) → AllByRecursion P (xs ++ (x ∷ [])) → P x
all_last P [] x h = h.0
all_last P (y ∷ ys) x h = all_last P ys x h.1

-- the last of such a list stands nowhere before
pub distinct_last : (xs : List ℕ) (x : ℕ) → Distinct (xs ++ (x ∷ [])) → Lacks x xs
unfolding Distinct
distinct_last [] x d = tt
distinct_last (y ∷ ys) x d =
    (λ e. all_last (λ z. y ≡ z → ⊥) ys x d.0 (sym e), distinct_last ys x d.1)

pub all_both : {X : Type 0} (P Q : X → Type 0) (xs : List X) → AllByRecursion P xs → AllByRecursion Q xs → AllByRecursion (λ x. P x × Q x) xs
all_both P Q [] h k = tt
all_both P Q (x ∷ xs) h k = ((h.0, k.0), all_both P Q xs h.1 k.1)
