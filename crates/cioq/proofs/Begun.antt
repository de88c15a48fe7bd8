-- A box that is made is good, and one that is begun anew is good and empty.
use Rattle.std.proofs.Common.{◌≡◌, ℕ, zero, suc, ◌+◌, ◌*◌, ◌<◌, ◌≤◌, true, List, [], map, get_or, replicate, sym, refl, ap, ◌∙◌, arith}
use Rattle.std.proofs.lemmas.List.{length-append, length-replicate, length-drop}
use Rattle.std.proofs.lemmas.List.FromFn.{length-range_with_len}
use Rattle.crossbox.specs.declared.Cell.{Cell}
use Rattle.crossbox.specs.Box.{empty, held_for, for_output}
use Rattle.buffer.specs.Memory.{Lent, held_at, held, enough, fresh, reset}
use Rattle.buffer.proofs.Reset.{lent_enough_lem, fresh_sound, reset_sound, reset-row}
use Rattle.cioq.specs.State.{State, Good, unset, begun}
use Rattle.cioq.specs.Spells.{Spells, Counts}

zeros : (n o : ℕ) → ◌≡◌ {A = ℕ} (get_or (replicate n 0) o 0) 0
zeros zero o = refl
zeros (suc n) zero = refl
zeros (suc n) (suc o) = zeros n o

-- a box that is made is good
pub made_good : (l : Lent) → enough 64 8224 l ≡ true → Good (unset (fresh 64 8224 l))
made_good l e =
    record {
      sound = fresh_sound 64 8224 l e;
      rooms = refl;
      rows = refl;
      places = refl;
      few = omega arith;
      outputs = refl;
      full = λ o. omega (arith, zeros 32 o);
      idle = λ o h. zeros 32 o;
      whole = refl;
      heads_lent = (lent_enough_lem 64 8224 l e).0;
      cells_lent = (lent_enough_lem 64 8224 l e).1;
      spare_lent = (lent_enough_lem 64 8224 l e).2;
    }

none-held : (n o : ℕ) → held_for n o empty ≡ 0
unfolding held_for for_output
none-held zero o = refl
none-held (suc n) o = omega (arith, none-held n o)

module _ (s : State) (n : ℕ) (g : Good s) (h : n ≤ 32) where
  -- a box that is begun anew is good
  pub begun_good : Good (begun n s)
  begun_good =
      record {
        sound = reset_sound s.mem (257 * n) g.sound (omega arith) (omega (arith, g.heads_lent)) (omega (arith, g.cells_lent)) (omega (arith, g.spare_lent));
        rooms = g.rooms;
        rows = g.rows;
        places = refl;
        few = h;
        outputs = refl;
        full = λ o. omega (arith, zeros 32 o);
        idle = λ o l. zeros 32 o;
        whole = omega arith;
        heads_lent = simp (length-append, length-replicate, length-drop) (omega (arith, g.heads_lent));
        cells_lent = g.cells_lent;
        spare_lent = simp (length-append, length-range_with_len, length-drop) (omega (arith, g.spare_lent));
      }

  none_in_row : (r : ℕ) → r < 64 → held (reset (257 * n) s.mem) r ≡ []
  none_in_row r l =
      ap (λ (ps : List ℕ). map (held_at (reset (257 * n) s.mem)) ps) (reset-row s.mem (257 * n) g.sound (omega arith) (omega (arith, g.heads_lent)) (omega (arith, g.cells_lent)) (omega (arith, g.spare_lent)) r (omega (arith, g.rows)))

  -- and empty
  pub begun_spells : (bytes : Cell → List ℕ) → Spells bytes n (begun n s).mem empty
  begun_spells bytes =
      record { lists = λ i l. none_in_row i (omega arith); stores = λ o l. none_in_row (n + o) (omega arith) }

  pub begun_counts : Counts n (begun n s).counts empty
  begun_counts o l = zeros 32 o ∙ sym (none-held n o)
