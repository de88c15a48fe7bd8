-- Laws of lists: a cell put behind the first k, and rows as lists of a box.
use Rattle.std.proofs.Common.{◌≡◌, ℕ, zero, suc, ◌<◌, min, List, [], ◌∷◌, map, length, get_or, sym, refl, ap, ◌∙◌, arith}
use Rattle.std.specs.List.{insert}
use Rattle.std.proofs.lemmas.List.{length-map, get_or-map}
use Rattle.crossbox.specs.declared.Cell.{Cell}
use Rattle.crossbox.specs.Box.{put_at}
use Rattle.buffer.specs.Memory.{Mem, Held, held, held_at, row, row_length, place_at, Sound}
use Rattle.buffer.proofs.Safety.{row-length, row_at}
use Rattle.cioq.specs.Spells.{dress, cells}

-- put at its place, or at the end
pub put_at_inserted : (k : ℕ) (c : Cell) (l : List Cell) → put_at k c l ≡ insert l (min k (length l)) c
unfolding put_at
put_at_inserted zero c l = let z : min 0 (length l) ≡ 0 = omega arith in ap (λ (j : ℕ). insert l j c) (sym z)
put_at_inserted (suc k) c [] = let z : min (suc k) 0 ≡ 0 = omega arith in ap (λ (j : ℕ). insert [] j c) (sym z)
put_at_inserted (suc k) c (d ∷ l) =
    let z : min (suc k) (suc (length l)) ≡ suc (min k (length l)) = omega arith in
    ap (λ (xs : List Cell). d ∷ xs) (put_at_inserted k c l) ∙ ap (λ (j : ℕ). insert (d ∷ l) j c) (sym z)

-- a row has as many places as it holds cells
pub held-length : (m : Mem) (r : ℕ) → Sound m → r < m.count → row_length m r ≡ length (held m r)
held-length m r s h = sym (length-map (row m r) (held_at m) ∙ row-length m r s h)

pub dressed-length : (bytes : Cell → List ℕ) (m : Mem) (r : ℕ) (l : List Cell) → Sound m → r < m.count → held m r ≡ map (dress bytes) l → row_length m r ≡ length l
dressed-length bytes m r l s h e =
    held-length m r s h ∙ (ap length e ∙ length-map l (dress bytes))

-- dressed cells without their bytes
pub undressed : (bytes : Cell → List ℕ) (l : List Cell) → map (λ (h : Held). h.cell) (map (dress bytes) l) ≡ l
undressed bytes [] = refl
undressed bytes (c ∷ l) = ap (λ (xs : List Cell). c ∷ xs) (undressed bytes l)

pub spelled-cells : (bytes : Cell → List ℕ) (m : Mem) (r : ℕ) (l : List Cell) → held m r ≡ map (dress bytes) l → cells m r ≡ l
spelled-cells bytes m r l e = ap (λ (xs : List Held). map (λ (h : Held). h.cell) xs) e ∙ undressed bytes l

-- what stands behind the first k of a row
pub held_at_lem : (m : Mem) (r k : ℕ) (d : Held) → Sound m → r < m.count → k < row_length m r → get_or (held m r) k d ≡ held_at m (place_at r k m)
held_at_lem m r k d s h l =
    get_or-map (held_at m) (row m r) k 0 d (omega (arith, row-length m r s h)) ∙ ap (λ (p : ℕ). held_at m p) (row_at m r k l)

-- a row has as many cells as places
pub cells-length : (m : Mem) (r : ℕ) → Sound m → r < m.count → length (cells m r) ≡ row_length m r
cells-length m r s h = length-map (held m r) (λ (x : Held). x.cell) ∙ sym (held-length m r s h)

-- and the cell behind its first k is the one that is read there
pub cells_at : (m : Mem) (r k : ℕ) (d : Cell) → Sound m → r < m.count → k < row_length m r → get_or (cells m r) k d ≡ (held_at m (place_at r k m)).cell
cells_at m r k d s h l =
    get_or-map (λ (x : Held). x.cell) (held m r) k (record { cell = d; body = [] }) d (omega (arith, held-length m r s h))
    ∙ ap (λ (x : Held). x.cell) (held_at_lem m r k (record { cell = d; body = [] }) s h l)
