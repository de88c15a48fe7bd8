-- Arrivals change a place's bytes only where a cell is put there, and the other steps change none.
use Rattle.std.proofs.Common.{◌≡◌, ℕ, zero, suc, ◌+◌, ◌<◌, ◌≤◌, Bool, true, not, eqb, ltb, ◌⊎◌, List, [], length, get_or, set, sym, refl, ap, ◌∙◌, subst, inl, inr, ⊎_elim, arith}
use Rattle.std.proofs.lemmas.List.{get_or-set_same, get_or-set_other}
use Rattle.std.proofs.lemmas.Bool.{cases_eq, cond_both}
use Rattle.crossbox.specs.declared.Arrival.{Arrival}
use Rattle.crossbox.specs.declared.Arrival.TheVariants.{Nothing, For}
use Rattle.crossbox.specs.declared.Cell.{Cell}
use Rattle.crossbox.specs.Cells.{Arrivals}
use Rattle.places.specs.declared.Head.{Head}
use Rattle.buffer.specs.Memory.{Mem, head_at, row_length, next, put}
use Rattle.buffer.proofs.Safety.{next_in}
use Rattle.buffer.proofs.Put.{next_owned, head_there, head_elsewhere}
use Rattle.words.specs.Lines.{Line, no_line}
use Rattle.cioq.specs.State.{State, Good, count_of}
use Rattle.cioq.specs.Arrivals.{Brings, spot, with_cell, turned_away, admit_one, arrivals_of, admit_all}
use Rattle.cioq.specs.Transfers.{transfer_one, transfer_all}
use Rattle.cioq.specs.Departures.{without_first, depart_one, depart_all}
use Rattle.cioq.specs.Kept.{Bring, PutThere, PlacesKept}
use Rattle.cioq.proofs.Room.{place_left, row_room}
use Rattle.cioq.proofs.Arrivals.{all_lines, all_good}

-- what is named at one input changes no bytes
transfer-cells : (s : State) (i : ℕ) (x : Arrival) → (transfer_one i x s).mem.cells ≡ s.mem.cells
transfer-cells s i Nothing = refl
transfer-cells s i (For o) = refl

-- transfers change no bytes
pub transferred_cells : (s : State) (ch : Arrivals) (k : ℕ) → (transfer_all k ch s).mem.cells ≡ s.mem.cells
unfolding transfer_all
transferred_cells s ch zero = refl
transferred_cells s ch (suc k) = transfer-cells (transfer_all k ch s) k (ch k) ∙ transferred_cells s ch k

-- what leaves by one output changes no bytes
depart-cells : (s : State) (o : ℕ) → (depart_one o s).mem.cells ≡ s.mem.cells
depart-cells s o =
    cond_both (eqb (row_length s.mem (s.lines + o)) 0) s (without_first o s) (λ (z : State). z.mem.cells ≡ s.mem.cells) (λ t. refl) (λ t. refl)

-- departures change no bytes
pub departed-cells : (s : State) (k : ℕ) → (depart_all k s).mem.cells ≡ s.mem.cells
unfolding depart_all
departed-cells s zero = refl
departed-cells s (suc k) = depart-cells (depart_all k s) k ∙ departed-cells s k

-- place p after the lines of the first k inputs: its bytes, and that it was free if it is
record Place (s : State) (ls : List Line) (k : ℕ) (m : Mem) (p : ℕ) : Type 0 where
  bytes : (get_or m.cells p [] ≡ get_or s.mem.cells p []) ⊎ PutThere s ls k m p
  free : (head_at m p).owner ≡ 0 → (head_at s.mem p).owner ≡ 0

-- a place that is as it was
same_place : (s : State) (ls : List Line) (k : ℕ) (m m' : Mem) (p : ℕ) → get_or m'.cells p [] ≡ get_or m.cells p [] → head_at m' p ≡ head_at m p → Place s ls k m p → Place s ls (suc k) m' p
same_place s ls k m m' p e f pl =
    record {
      bytes = ⊎_elim (λ q. inl (e ∙ q)) (λ q. inr (record { input = q.input; output = q.output; there = omega (arith, q.there); arrives = q.arrives; taken = q.taken; free = q.free; bytes = e ∙ q.bytes })) pl.bytes;
      free = λ z. pl.free (sym (ap (λ (x : Head). x.owner) f) ∙ z);
    }

module _ (s : State) (ls : List Line) (k : ℕ) (z : State) (g : Good z) (is : z ≡ admit_all ls k s) (h : k < z.lines) where
  -- every place after a cell was put
  put_place : (o : ℕ) → o < z.lines → arrivals_of ls k ≡ For o → ltb (count_of z o) 256 ≡ true → (p : ℕ) → Place s ls k z.mem p → Place s ls (suc k) (with_cell k o (get_or ls k no_line).body z).mem p
  put_place o ho arr e p pl =
      let c : Cell = record { slot = z.slots; input = k; output = o } in
      let body = (get_or ls k no_line).body in
      let in_count : k < z.mem.count = omega (arith, g.few, g.rows) in
      let few = row_room z g k (omega arith) (omega (arith, g.few)) in
      let some = place_left z g (omega arith) in
      let le : spot k o z ≤ row_length z.mem k = omega arith in
      let there = head_there z.mem k (spot k o z) c body g.sound in_count le few some in
      let i : next z.mem < length z.mem.cells = omega (arith, next_in z.mem g.sound some, g.sound.cells_reach) in
      elim (cases_eq p (next z.mem)) [
        | inl q ↦
            record {
              bytes = inr (record { input = k; output = o; there = omega arith; arrives = arr; taken = ap (λ (y : State). turned_away y (arrivals_of ls k)) (sym is) ∙ (ap (λ (x : Arrival). turned_away z x) arr ∙ ap (λ (b : Bool). not b) e); free = pl.free (ap (λ (y : ℕ). (head_at z.mem y).owner) q ∙ (next_owned z.mem k (spot k o z) c body g.sound in_count le few some).1); bytes = ap (λ (y : ℕ). get_or (set z.mem.cells (next z.mem) body) y []) q ∙ get_or-set_same z.mem.cells (next z.mem) body [] i });
              free = λ y. absurd (let w : ◌≡◌ {A = ℕ} (k + 1) 0 = sym (ap (λ (x : Head). x.owner) there) ∙ (ap (λ (x : ℕ). (head_at (put k (spot k o z) c body z.mem) x).owner) (sym q) ∙ y) in omega arith);
            }
        | inr ne ↦ same_place s ls k z.mem (put k (spot k o z) c body z.mem) p (get_or-set_other z.mem.cells (next z.mem) p body [] ne) (head_elsewhere z.mem k (spot k o z) c body g.sound in_count le few some p (λ y. ne (sym y))) pl
      ]

  -- every place after the line of input k
  admit_place : (x : Arrival) → arrivals_of ls k ≡ x → Brings z.lines x (get_or ls k no_line).body → (p : ℕ) → Place s ls k z.mem p → Place s ls (suc k) (admit_one k x (get_or ls k no_line).body z).mem p
  admit_place Nothing e b p pl = same_place s ls k z.mem z.mem p refl refl pl
  admit_place (For o) e b p pl =
      cond_both (ltb (count_of z o) 256) (with_cell k o (get_or ls k no_line).body z) z (λ (y : State). Place s ls (suc k) y.mem p)
      (λ t. put_place o b.0 e t p pl) (λ t. same_place s ls k z.mem z.mem p refl refl pl)

-- every place after the lines of the first k inputs
places_admitted : (s : State) (ls : List Line) → Good s → Bring s.lines ls → (k : ℕ) → k ≤ s.lines → (p : ℕ) → Place s ls k (admit_all ls k s).mem p
unfolding admit_all
places_admitted s ls g b zero h p = record { bytes = inl refl; free = λ z. z }
places_admitted s ls g b (suc k) h p =
    let e = all_lines ls k s in
    admit_place s ls k (admit_all ls k s) (all_good ls k s g (omega arith) b) refl (omega arith) (arrivals_of ls k) refl
    (subst (λ (n : ℕ). Brings n (arrivals_of ls k) (get_or ls k no_line).body) (sym e) (b k (omega arith))) p (places_admitted s ls g b k (omega arith) p)

-- bytes are kept
pub places_kept : PlacesKept
places_kept =
    record {
      arrivals = λ s ls g b p. (places_admitted s ls g b s.lines (omega arith) p).bytes;
      transfers = transferred_cells;
      departures = departed-cells;
      settings = λ s n. refl;
    }
