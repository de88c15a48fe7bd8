-- Laws of lists that the loops over rows want.
use Rattle.std.proofs.Common.{◌≡◌, ℕ, ◌+◌, ◌-◌, ◌<◌, List, ◌++◌, length, get_or, take, drop, ap, ◌∙◌, arith}
use lib.Seq.{paste}
use Rattle.std.specs.List.{range_with_len}
use Rattle.std.proofs.lemmas.List.{take_all, map-id, length-drop}
use Rattle.std.proofs.lemmas.List.FromFn.{fill_by_all}
use Rattle.buffer.specs.Rows.{moved_down}

pub down_all : (xs ys : List ℕ) → 0 < length xs → ys ≡ paste xs 0 (drop 1 xs) (length xs - 1) → ys ≡ moved_down xs
down_all xs ys h e =
    let t : take (length xs - 1) (drop 1 xs) ≡ drop 1 xs = take_all (length xs - 1) (drop 1 xs) (simp length-drop (omega arith)) in
    let z : 0 + (length xs - 1) ≡ length xs - 1 = omega arith in
    e ∙ ap (λ (k : ℕ). take (length xs - 1) (drop 1 xs) ++ drop k xs) z ∙ ap (λ (zs : List ℕ). zs ++ drop (length xs - 1) xs) t

pub number_all : (xs : List ℕ) (i n : ℕ) → i ≡ n → length xs ≡ n → ((k : ℕ) → k < i → get_or xs k 0 ≡ k) → xs ≡ range_with_len 0 n
number_all xs i n h k f =
    fill_by_all (λ j. j) xs n 0 k (λ j l. f j (omega arith)) ∙ map-id (range_with_len 0 n)
