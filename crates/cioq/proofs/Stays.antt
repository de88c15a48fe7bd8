-- Arrivals, transfers, departures and new settings stay within what the settings need.
use Rattle.std.proofs.Common.{◌≡◌, ℕ, zero, suc, ◌+◌, ◌-◌, ◌*◌, ◌<◌, ◌≤◌, Bool, true, false, cond, eqb, ltb, List, map, length, get_or, set, replicate, sym, refl, ap, ◌∙◌, subst, inl, inr, mul-le-mul_right, suc-mul, arith}
use Rattle.std.proofs.lemmas.Bool.{cases_Bool}
use Rattle.std.proofs.lemmas.Bool.Decides.{nat_tests}
use Rattle.crossbox.specs.declared.Arrival.{Arrival}
use Rattle.crossbox.specs.declared.Arrival.TheVariants.{Nothing, For}
use Rattle.crossbox.specs.declared.Cell.{Cell}
use Rattle.crossbox.specs.Cells.{Arrivals}
use Rattle.crossbox.specs.Promise.{Fits}
use Rattle.places.specs.declared.Head.{Head}
use Rattle.places.specs.Head.{cell_of}
use Rattle.buffer.specs.Memory.{Mem, Held, held, head_at, place_at, row_length, put, remove, carry}
use Rattle.buffer.specs.Lent.{lent_to, beyond, within}
use Rattle.buffer.proofs.Within.{put-beyond, put-within, remove-beyond, remove-within, reset-beyond, reset-within}
use Rattle.buffer.proofs.WithinCarry.{held-within, head_within, carry-beyond, carry-within}
use Rattle.words.specs.Lines.{Line, no_line}
use Rattle.cioq.specs.State.{State, Good, Counted, count_of, passed}
use Rattle.cioq.specs.Spells.{cells, box_of}
use Rattle.cioq.specs.Arrivals.{Brings, spot, with_cell, admit_one, arrivals_of, admit_all}
use Rattle.cioq.specs.Choice.{all_wait}
use Rattle.cioq.specs.Transfers.{position, place_for, cell_at, sent, transfer_one, transfer_all}
use Rattle.cioq.specs.Departures.{without_first, depart_one, depart_all}
use Rattle.cioq.specs.Kept.{cut, StaysWithin, Bring, ArrivalsStayWithin, TransferStaysWithin, DeparturesStayWithin, SettingsStayWithin}
use Rattle.cioq.proofs.Room.{place_left, row_room}
use Rattle.cioq.proofs.Arrivals.{all_lines, all_good}
use Rattle.cioq.proofs.Transfers.{send_from, send_to, send_room, transferred_lines, transferred_good, transferred_waits}
use Rattle.cioq.proofs.Departures.{departed-lines, departed_good}

-- nothing done
pub same_stays : (n : ℕ) (s : State) → StaysWithin n (λ x. x) s
same_stays n s = record { left = refl; unread = refl }

-- a slot passed
pub passed_stays : (n : ℕ) (s : State) → StaysWithin n passed s
passed_stays n s = record { left = refl; unread = refl }

-- one step after another
pub then_stays : (n : ℕ) (f k : State → State) (s : State) → StaysWithin n f s → StaysWithin n k (f s) → StaysWithin n (λ x. k (f x)) s
then_stays n f k s a b = record { left = b.left ∙ a.left; unread = b.unread ∙ ap k a.unread }

-- by a test that does not depend on what lies beyond
choice_stays : (n : ℕ) (s : State) (w : State → Bool) (f k : State → State) → w (cut n s) ≡ w s → (w s ≡ true → StaysWithin n f s) → (w s ≡ false → StaysWithin n k s) → StaysWithin n (λ x. cond (w x) (f x) (k x)) s
choice_stays n s w f k q a b =
    elim (cases_Bool (w s)) [
      | inl e ↦
          record {
            left = subst (λ (v : Bool). beyond (257 * n) (16448 * n) (lent_to (cond v (f s) (k s)).mem) ≡ beyond (257 * n) (16448 * n) (lent_to s.mem)) (sym e) (a e).left;
            unread = ap (λ (v : Bool). cut n (cond v (f s) (k s))) e ∙ ((a e).unread ∙ sym (ap (λ (v : Bool). cond v (f (cut n s)) (k (cut n s))) (q ∙ e)));
          }
      | inr e ↦
          record {
            left = subst (λ (v : Bool). beyond (257 * n) (16448 * n) (lent_to (cond v (f s) (k s)).mem) ≡ beyond (257 * n) (16448 * n) (lent_to s.mem)) (sym e) (b e).left;
            unread = ap (λ (v : Bool). cut n (cond v (f s) (k s))) e ∙ ((b e).unread ∙ sym (ap (λ (v : Bool). cond v (f (cut n s)) (k (cut n s))) (q ∙ e)));
          }
    ]

-- a row of the settings: the list of an input, or the store of an output
module _ (s : State) (g : Good s) (r : ℕ) (h : r < 2 * s.lines) where
  -- it is one of the 64
  in_count : r < s.mem.count
  in_count = omega (arith, g.few, g.rows)

  -- and ends within what the settings need
  in_span : r * s.mem.room + s.mem.room ≤ 16448 * s.lines
  in_span =
      let l : suc r ≤ 2 * s.lines = omega arith in
      subst (λ (z : ℕ). r * z + z ≤ 16448 * s.lines) (sym g.rooms) (omega (arith, suc-mul r 8224, mul-le-mul_right 8224 l))

  -- what it holds does not depend on what lies beyond
  cells-within : cells (cut s.lines s).mem r ≡ cells s.mem r
  cells-within =
      ap (λ (xs : List Held). map (λ (x : Held). x.cell) xs)
      (subst (λ (p : ℕ). held (within p (16448 * s.lines) s.mem) r ≡ held s.mem r) g.places (held-within s.mem r (16448 * s.lines) g.sound in_count in_span))

  -- nor does the cell behind its first k
  cell-within : (k : ℕ) → k < row_length s.mem r → cell_at (cut s.lines s).mem r k ≡ cell_at s.mem r k
  cell-within k l =
      ap (λ (x : Head). cell_of x)
      (subst (λ (p : ℕ). head_at (within p (16448 * s.lines) s.mem) (place_at r k (within p (16448 * s.lines) s.mem)) ≡ head_at s.mem (place_at r k s.mem)) g.places (head_within s.mem r (16448 * s.lines) g.sound in_count in_span k l))

module _ (s : State) (g : Good s) (i o : ℕ) (hi : i < s.lines) (ho : o < s.lines) where
  -- a cell put into the list of input i
  put_stays : (body : List ℕ) → StaysWithin s.lines (with_cell i o body) s
  put_stays body =
      let c : Cell = record { slot = s.slots; input = i; output = o } in
      let few = row_room s g i (omega arith) (omega (arith, g.few)) in
      let some = place_left s g (omega arith) in
      let row : i < 2 * s.lines = omega arith in
      record {
        left = subst (λ (p : ℕ). beyond p (16448 * s.lines) (lent_to (put i (spot i o s) c body s.mem)) ≡ beyond p (16448 * s.lines) (lent_to s.mem)) g.places (put-beyond s.mem i (spot i o s) (16448 * s.lines) g.sound (in_count s g i row) (in_span s g i row) c body (omega arith) few some);
        unread = ap (λ (m : Mem). record { mem = m; counts = set s.counts o (count_of s o + 1); lines = s.lines; slots = s.slots }) (subst (λ (p : ℕ). within p (16448 * s.lines) (put i (spot i o s) c body s.mem) ≡ put i (spot i o s) c body (within p (16448 * s.lines) s.mem)) g.places (put-within s.mem i (spot i o s) (16448 * s.lines) g.sound (in_count s g i row) (in_span s g i row) c body (omega arith) few some));
      }

  module _ (w : position o (cells s.mem i) < length (cells s.mem i)) where
    -- where the cell stands, and where it belongs
    k : ℕ
    k = position o (cells s.mem i)

    j : ℕ
    j = place_for (cell_at s.mem i k) (cells s.mem (s.lines + o))

    -- both rows are of the settings
    from_row : i < 2 * s.lines
    from_row = omega arith

    to_row : s.lines + o < 2 * s.lines
    to_row = omega arith

    -- it is carried within them
    carried-left : beyond (257 * s.lines) (16448 * s.lines) (lent_to (carry i k (s.lines + o) j s.mem)) ≡ beyond (257 * s.lines) (16448 * s.lines) (lent_to s.mem)
    unfolding k j
    carried-left =
        subst (λ (p : ℕ). beyond p (16448 * s.lines) (lent_to (carry i k (s.lines + o) j s.mem)) ≡ beyond p (16448 * s.lines) (lent_to s.mem)) g.places
        (carry-beyond s.mem i k (s.lines + o) j (16448 * s.lines) g.sound (in_count s g i from_row) (send_from s i o g hi ho w) (in_count s g (s.lines + o) to_row) (send_to s i o g hi ho w _) (send_room s i o g hi ho w) (in_span s g i from_row) (in_span s g (s.lines + o) to_row))

    carried_unread : within (257 * s.lines) (16448 * s.lines) (carry i k (s.lines + o) j s.mem) ≡ carry i k (s.lines + o) j (cut s.lines s).mem
    unfolding k j
    carried_unread =
        subst (λ (p : ℕ). within p (16448 * s.lines) (carry i k (s.lines + o) j s.mem) ≡ carry i k (s.lines + o) j (within p (16448 * s.lines) s.mem)) g.places
        (carry-within s.mem i k (s.lines + o) j (16448 * s.lines) g.sound (in_count s g i from_row) (send_from s i o g hi ho w) (in_count s g (s.lines + o) to_row) (send_to s i o g hi ho w _) (send_room s i o g hi ho w) (in_span s g i from_row) (in_span s g (s.lines + o) to_row))

    -- what is read to find it does not depend on what lies beyond
    same_place : k ≡ position o (cells (cut s.lines s).mem i)
    unfolding k
    same_place = ap (λ (l : List Cell). position o l) (sym (cells-within s g i from_row))

    same-cell : cell_at s.mem i k ≡ cell_at (cut s.lines s).mem i (position o (cells (cut s.lines s).mem i))
    unfolding k
    same-cell =
        sym (cell-within s g i from_row k (send_from s i o g hi ho w)) ∙ ap (λ (z : ℕ). cell_at (cut s.lines s).mem i z) same_place

    same_spot : j ≡ place_for (cell_at (cut s.lines s).mem i (position o (cells (cut s.lines s).mem i))) (cells (cut s.lines s).mem (s.lines + o))
    unfolding j
    same_spot =
        ap (λ (c : Cell). place_for c (cells s.mem (s.lines + o))) same-cell
        ∙ ap (λ (l : List Cell). place_for (cell_at (cut s.lines s).mem i (position o (cells (cut s.lines s).mem i))) l) (sym (cells-within s g (s.lines + o) to_row))

    -- the first cell for output o sent to its store
    send_stays : StaysWithin s.lines (sent i o) s
    unfolding k j
    send_stays =
        record {
          left = carried-left;
          unread =
              ap (λ (m : Mem). record { mem = m; counts = s.counts; lines = s.lines; slots = s.slots })
              (carried_unread
              ∙ (ap (λ (z : ℕ). carry i z (s.lines + o) j (cut s.lines s).mem) same_place
              ∙ ap (λ (z : ℕ). carry i (position o (cells (cut s.lines s).mem i)) (s.lines + o) z (cut s.lines s).mem) same_spot));
        }

-- the first cell of a store let go
remove_stays : (s : State) → Good s → (o : ℕ) → o < s.lines → 0 < row_length s.mem (s.lines + o) → StaysWithin s.lines (without_first o) s
remove_stays s g o ho lt =
    let row : s.lines + o < 2 * s.lines = omega arith in
    record {
      left = subst (λ (p : ℕ). beyond p (16448 * s.lines) (lent_to (remove (s.lines + o) 0 s.mem)) ≡ beyond p (16448 * s.lines) (lent_to s.mem)) g.places (remove-beyond s.mem (s.lines + o) 0 (16448 * s.lines) g.sound (in_count s g (s.lines + o) row) (in_span s g (s.lines + o) row) lt);
      unread = ap (λ (m : Mem). record { mem = m; counts = set s.counts o (count_of s o - 1); lines = s.lines; slots = s.slots }) (subst (λ (p : ℕ). within p (16448 * s.lines) (remove (s.lines + o) 0 s.mem) ≡ remove (s.lines + o) 0 (within p (16448 * s.lines) s.mem)) g.places (remove-within s.mem (s.lines + o) 0 (16448 * s.lines) g.sound (in_count s g (s.lines + o) row) (in_span s g (s.lines + o) row) lt));
    }

-- what arrives by one input
admit_stays : (s : State) (i : ℕ) (x : Arrival) (body : List ℕ) → Good s → i < s.lines → Brings s.lines x body → StaysWithin s.lines (admit_one i x body) s
admit_stays s i Nothing body g h b = same_stays s.lines s
admit_stays s i (For o) body g h b =
    choice_stays s.lines s (λ (z : State). ltb (count_of z o) 256) (with_cell i o body) (λ (z : State). z) refl (λ e. put_stays s g i o h b.0 body) (λ e. same_stays s.lines s)

-- what leaves by one output
depart_stays : (s : State) (o : ℕ) → Good s → o < s.lines → StaysWithin s.lines (depart_one o) s
depart_stays s o g h =
    choice_stays s.lines s (λ (z : State). eqb (row_length z.mem (z.lines + o)) 0) (λ (z : State). z) (without_first o) refl (λ e. same_stays s.lines s) (λ e. remove_stays s g o h (grind (arith, nat_tests)))

-- arrivals by the first k inputs
pub arrived_stays : (s : State) (ls : List Line) → Good s → Bring s.lines ls → (k : ℕ) → k ≤ s.lines → StaysWithin s.lines (admit_all ls k) s
unfolding admit_all
arrived_stays s ls g b zero h = same_stays s.lines s
arrived_stays s ls g b (suc k) h =
    let e = all_lines ls k s in
    then_stays s.lines (admit_all ls k) (admit_one k (arrivals_of ls k) (get_or ls k no_line).body) s (arrived_stays s ls g b k (omega arith))
    (subst (λ (n : ℕ). StaysWithin n (admit_one k (arrivals_of ls k) (get_or ls k no_line).body) (admit_all ls k s)) e
    (admit_stays (admit_all ls k s) k (arrivals_of ls k) (get_or ls k no_line).body (all_good ls k s g (omega arith) b) (omega arith)
    (subst (λ (n : ℕ). Brings n (arrivals_of ls k) (get_or ls k no_line).body) (sym e) (b k (omega arith)))))

-- departures by the first k outputs
pub departed_stays : (s : State) → Good s → Counted s → (k : ℕ) → k ≤ s.lines → StaysWithin s.lines (depart_all k) s
unfolding depart_all
departed_stays s g c zero h = same_stays s.lines s
departed_stays s g c (suc k) h =
    let e = departed-lines k s in
    then_stays s.lines (depart_all k) (depart_one k) s (departed_stays s g c k (omega arith))
    (subst (λ (n : ℕ). StaysWithin n (depart_one k) (depart_all k s)) e (depart_stays (depart_all k s) k (departed_good k s g c (omega arith)) (omega arith)))

-- what is named at one input, if it waits there
transfer-one_stays : (s : State) (i : ℕ) (x : Arrival) → Good s → i < s.lines → ((o : ℕ) → x ≡ For o → o < s.lines) → ((o : ℕ) → x ≡ For o → position o (cells s.mem i) < length (cells s.mem i)) → StaysWithin s.lines (transfer_one i x) s
transfer-one_stays s i Nothing g h f w = same_stays s.lines s
transfer-one_stays s i (For o) g h f w = send_stays s g i o h (f o refl) (w o refl)

-- what is named at the first k inputs
pub transferred_stays : (s : State) (ch : Arrivals) → Good s → Fits s.lines ch → all_wait s.lines ch (box_of s.lines s.mem) ≡ true → (k : ℕ) → k ≤ s.lines → StaysWithin s.lines (transfer_all k ch) s
unfolding transfer_all
transferred_stays s ch g f w zero h = same_stays s.lines s
transferred_stays s ch g f w (suc k) h =
    let e = transferred_lines k ch s in
    then_stays s.lines (transfer_all k ch) (transfer_one k (ch k)) s (transferred_stays s ch g f w k (omega arith))
    (subst (λ (n : ℕ). StaysWithin n (transfer_one k (ch k)) (transfer_all k ch s)) e
    (transfer-one_stays (transfer_all k ch s) k (ch k) (transferred_good ch s g f w k (omega arith)) (omega arith) (λ o q. let l = f k o (omega arith) q in omega arith) (transferred_waits ch s g f w k (omega arith))))

-- arrivals stay within the settings
pub arrivals_stay : ArrivalsStayWithin
arrivals_stay s ls g b = arrived_stays s ls g b s.lines (omega arith)

-- so does the transfer of what a choice names
pub transfer_stays : TransferStaysWithin
transfer_stays s ch g f w = transferred_stays s ch g f w s.lines (omega arith)

-- so do departures
pub departures_stay : DeparturesStayWithin
departures_stay s g c = departed_stays s g c s.lines (omega arith)

-- so do new settings
pub settings_stay : SettingsStayWithin
settings_stay s n g h =
    let hs : 257 * n ≤ length s.mem.heads = omega (arith, g.heads_lent) in
    let ss : 257 * n ≤ length s.mem.spare = omega (arith, g.spare_lent) in
    record {
      left = reset-beyond s.mem (257 * n) hs ss (16448 * n);
      unread = ap (λ (m : Mem). record { mem = m; counts = replicate 32 0; lines = n; slots = 0 }) (reset-within s.mem (257 * n) hs ss (16448 * n));
    }
