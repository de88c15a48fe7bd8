-- Laws of lists that the loops over rows want.
use Rattle.std.proofs.Common.{◌≡◌, ℕ, zero, suc, ◌+◌, ◌-◌, ◌<◌, ◌≤◌, List, [], ◌∷◌, ◌++◌, length, get_or, take, drop, set, replicate, sym, refl, ap, ◌∙◌, add-one, arith}
use lib.Seq.{paste}
use Rattle.std.specs.List.{range_with_len}
use Rattle.std.proofs.lemmas.List.{append-nil, drop_all, take_all, take_more_set, replicate_more, map-id, length-drop}
use Rattle.std.proofs.lemmas.List.FromFn.{fill_by_all}
use Rattle.places.specs.Rows.{moved_up, moved_down, slid_down}

up_suc : (x : ℕ) (xs : List ℕ) (i : ℕ) → i < length xs → set (take i (x ∷ xs) ++ drop i xs) i (get_or (x ∷ xs) i 0) ≡ take (suc i) (x ∷ xs) ++ drop (suc i) xs
up_suc x [] i h = absurd (omega arith)
up_suc x (y ∷ ys) zero h = refl
up_suc x (y ∷ ys) (suc i) h = ap (λ (zs : List ℕ). x ∷ zs) (up_suc y ys i (omega arith))

up_read : (x : ℕ) (xs : List ℕ) (i : ℕ) → i < length xs → get_or (take i (x ∷ xs) ++ drop i xs) i 0 ≡ get_or xs i 0
up_read x [] i h = absurd (omega arith)
up_read x (y ∷ ys) zero h = refl
up_read x (y ∷ ys) (suc i) h = up_read y ys i (omega arith)

-- one step of moving up: the first i are moved, and what is carried goes to i
pub up_again : (x : ℕ) (xs part : List ℕ) (i carried : ℕ) → i < length xs → part ≡ take i (x ∷ xs) ++ drop i xs → carried ≡ get_or (x ∷ xs) i 0 → (set part i carried ≡ take (i + 1) (x ∷ xs) ++ drop (i + 1) xs) × (get_or part i 0 ≡ get_or (x ∷ xs) (i + 1) 0)
up_again x xs part i carried h e f = rw (e, f, add-one) (up_suc x xs i h, up_read x xs i h)

pub up_all : (x : ℕ) (xs part : List ℕ) (i : ℕ) → i ≡ length xs → part ≡ take i (x ∷ xs) ++ drop i xs → part ≡ moved_up x xs
up_all x xs part i h e =
    let d : drop (length xs) xs ≡ [] = drop_all (length xs) xs (omega arith) in
    e ∙ ap (λ (k : ℕ). take k (x ∷ xs) ++ drop k xs) h ∙ ap (λ (ys : List ℕ). take (length xs) (x ∷ xs) ++ ys) d ∙ append-nil (take (length xs) (x ∷ xs))

-- a part that was copied down by n
pub slide_all : (n : ℕ) (xs ys : List ℕ) → n ≤ length xs → ys ≡ paste xs 0 (drop n xs) (length xs - n) → ys ≡ slid_down n xs
slide_all n xs ys h e =
    let t : take (length xs - n) (drop n xs) ≡ drop n xs = take_all (length xs - n) (drop n xs) (simp length-drop (omega arith)) in
    let z : 0 + (length xs - n) ≡ length xs - n = omega arith in
    e ∙ ap (λ (k : ℕ). take (length xs - n) (drop n xs) ++ drop k xs) z ∙ ap (λ (zs : List ℕ). zs ++ drop (length xs - n) xs) t

pub down_all : (xs ys : List ℕ) → 0 < length xs → ys ≡ paste xs 0 (drop 1 xs) (length xs - 1) → ys ≡ moved_down xs
down_all xs ys h e = slide_all 1 xs ys (omega arith) e

-- one step of a loop that writes v into each element
pub fill_again : {X : Type 0} (v : X) (xs : List X) (i : ℕ) → i < length xs → take i xs ≡ replicate i v → take (i + 1) (set xs i v) ≡ replicate (i + 1) v
fill_again v xs i h e = take_more_set xs i v h ∙ ap (λ ys. ys ++ (v ∷ [])) e ∙ replicate_more i v

pub fill_all : {X : Type 0} (v : X) (xs : List X) (i n : ℕ) → i ≡ n → length xs ≡ n → take i xs ≡ replicate i v → xs ≡ replicate n v
fill_all v xs i n h k e =
    sym (take_all i xs (omega arith)) ∙ e ∙ ap (λ j. replicate j v) h

pub number_all : (xs : List ℕ) (i n : ℕ) → i ≡ n → length xs ≡ n → ((k : ℕ) → k < i → get_or xs k 0 ≡ k) → xs ≡ range_with_len 0 n
number_all xs i n h k f =
    fill_by_all (λ j. j) xs n 0 k (λ j l. f j (omega arith)) ∙ map-id (range_with_len 0 n)
