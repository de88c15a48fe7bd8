-- Each step of a slot keeps the box good.
use Rattle.std.proofs.Common.{◌≡◌, ℕ, zero, suc, ◌+◌, ◌-◌, ◌*◌, ◌<◌, ◌≤◌, Bool, true, false, cond, eqb, ltb, List, length, get_or, sym, refl, ◌∙◌, subst, inl, inr, arith}
use Rattle.std.proofs.lemmas.List.{length-set, get_or-set_other, get_or-replicate, length-append, length-replicate, length-drop}
use Rattle.std.proofs.lemmas.List.FromFn.{length-range_with_len}
use Rattle.std.proofs.lemmas.Bool.{cases_Bool, ltb-true, eqb-false}
use Rattle.crossbox.specs.declared.Arrival.{Arrival}
use Rattle.crossbox.specs.declared.Arrival.TheVariants.{Nothing, For}
use Rattle.crossbox.specs.declared.Cell.{Cell}
use Rattle.buffer.specs.Memory.{Lent, Mem, row_length, put, remove, fresh, enough}
use Rattle.buffer.proofs.Put.{put_sound}
use Rattle.buffer.proofs.Remove.{remove_sound}
use Rattle.buffer.proofs.Reset.{reset_sound, fresh_sound, lent_enough_lem}
use Rattle.words.specs.Lines.{Line, no_line, fits}
use Rattle.words.specs.Spelling.{Formed}
use Rattle.words.proofs.Lines.{lines-length, lines_formed, formed_at, fits_at}
use Rattle.ideal.specs.State.{State, Good, unset, begun}
use Rattle.ideal.specs.Steps.{Brings, Reads, lines_of, admit_in, admit_all, depart_one, depart_all}
use Rattle.ideal.proofs.Room.{place_left}

-- a box with another memory of the same lines
abbrev pub with : State → Mem → State
with s m = record { mem = m; lines = s.lines; slots = s.slots }

module _ (s : State) (g : Good s) (o : ℕ) (h : o < s.lines) where
  count_in : o < s.mem.count
  count_in = omega (arith, g.few, g.queues)

  pub put_good : (c : Cell) (body : List ℕ) → row_length s.mem o < 256 → Good (with s (put o (row_length s.mem o) c body s.mem))
  put_good c body lt =
      record {
        sound = put_sound s.mem o (row_length s.mem o) c body g.sound count_in (omega arith) (omega (arith, g.rooms)) (place_left s g (omega arith));
        rooms = g.rooms;
        queues = g.queues;
        places = g.places;
        few = g.few;
        idle = λ r l i. get_or-set_other s.mem.lens o r (row_length s.mem o + 1) 0 (λ e. omega arith) ∙ g.idle r l i;
        heads_lent = simp length-set g.heads_lent;
        cells_lent = simp length-set g.cells_lent;
        spare_lent = g.spare_lent;
      }

  pub remove_good : 0 < row_length s.mem o → Good (with s (remove o 0 s.mem))
  remove_good lt =
      record {
        sound = remove_sound s.mem o 0 g.sound count_in lt;
        rooms = g.rooms;
        queues = g.queues;
        places = g.places;
        few = g.few;
        idle = λ r l i. get_or-set_other s.mem.lens o r (row_length s.mem o - 1) 0 (λ e. omega arith) ∙ g.idle r l i;
        heads_lent = simp length-set g.heads_lent;
        cells_lent = g.cells_lent;
        spare_lent = simp length-set g.spare_lent;
      }

pub admit_good : (s : State) (t i : ℕ) (x : Arrival) (body : List ℕ) → Good s → Brings s.lines x body → Good (with s (admit_in t i x body s.mem))
admit_good s t i Nothing body g b = g
admit_good s t i (For o) body g b =
    elim (cases_Bool (ltb (row_length s.mem o) 256)) [
      | inl e ↦ subst (λ (w : Bool). Good (with s (cond w (put o (row_length s.mem o) (record { slot = t; input = i; output = o }) body s.mem) s.mem))) (sym e) (put_good s g o b.0 (record { slot = t; input = i; output = o }) body (ltb-true (row_length s.mem o) 256 e))
      | inr e ↦ subst (λ (w : Bool). Good (with s (cond w (put o (row_length s.mem o) (record { slot = t; input = i; output = o }) body s.mem) s.mem))) (sym e) g
    ]

-- the lines that were read each bring nothing or a cell for an output that is there
pub Bring : ℕ → List Line → Type 0
Bring n ls = (i : ℕ) → i < n → Brings n (get_or ls i no_line).arrival (get_or ls i no_line).body

fitting : (n : ℕ) (x : Arrival) (body : List ℕ) → Formed 64 x body → fits n x ≡ true → Brings n x body
fitting n Nothing body f e = tt
fitting n (For o) body f e = (ltb-true o n e, f.1)

pub reads_bring : (n : ℕ) (bytes : List ℕ) → Reads n bytes → Bring n (lines_of n bytes)
unfolding Bring
reads_bring n bytes r i h =
    let l = lines-length 64 n bytes (lines_of n bytes) r.0 in
    let j : i < length (lines_of n bytes) = omega arith in
    fitting n (get_or (lines_of n bytes) i no_line).arrival (get_or (lines_of n bytes) i no_line).body
    (formed_at 64 (lines_of n bytes) i no_line (lines_formed 64 n bytes (lines_of n bytes) r.0) j)
    (fits_at n (lines_of n bytes) i no_line r.1 j)

pub bring_at : (n : ℕ) (ls : List Line) (i : ℕ) → Bring n ls → i < n → Brings n (get_or ls i no_line).arrival (get_or ls i no_line).body
unfolding Bring
bring_at n ls i b h = b i h

pub admit_all_good : (s : State) (t : ℕ) (ls : List Line) (k : ℕ) → Good s → Bring s.lines ls → k ≤ s.lines → Good (with s (admit_all t ls k s.mem))
unfolding admit_all
admit_all_good s t ls zero g b h = g
admit_all_good s t ls (suc k) g b h =
    admit_good (with s (admit_all t ls k s.mem)) t k (get_or ls k no_line).arrival (get_or ls k no_line).body (admit_all_good s t ls k g b (omega arith)) (bring_at s.lines ls k b (omega arith))

pub not-zero : (k : ℕ) → eqb k 0 ≡ false → 0 < k
not-zero zero e = absurd (eqb-false 0 0 e refl)
not-zero (suc k) e = omega arith

pub depart_good : (s : State) (o : ℕ) → Good s → o < s.lines → Good (with s (depart_one o s.mem))
depart_good s o g h =
    elim (cases_Bool (eqb (row_length s.mem o) 0)) [
      | inl e ↦ subst (λ (w : Bool). Good (with s (cond w s.mem (remove o 0 s.mem)))) (sym e) g
      | inr e ↦ subst (λ (w : Bool). Good (with s (cond w s.mem (remove o 0 s.mem)))) (sym e) (remove_good s g o h (not-zero (row_length s.mem o) e))
    ]

pub depart_all_good : (s : State) (k : ℕ) → Good s → k ≤ s.lines → Good (with s (depart_all k s.mem))
unfolding depart_all
depart_all_good s zero g h = g
depart_all_good s (suc k) g h =
    depart_good (with s (depart_all k s.mem)) k (depart_all_good s k g (omega arith)) (omega arith)

-- a box that was begun, or made, is good
pub begun_good : (s : State) (n : ℕ) → Good s → n ≤ 32 → Good (begun n s)
begun_good s n g h =
    record {
      sound = reset_sound s.mem (257 * n) g.sound (omega arith) (omega (arith, g.heads_lent)) (omega (arith, g.cells_lent)) (omega (arith, g.spare_lent));
      rooms = g.rooms;
      queues = g.queues;
      places = refl;
      few = h;
      idle = λ r l i. get_or-replicate {A = ℕ} s.mem.count r 0 0 (omega (arith, g.queues));
      heads_lent = simp (length-append, length-replicate, length-drop) (omega (arith, g.heads_lent));
      cells_lent = g.cells_lent;
      spare_lent = simp (length-append, length-range_with_len, length-drop) (omega (arith, g.spare_lent));
    }

pub unset_good : (l : Lent) → enough 32 256 l ≡ true → Good (unset (fresh 32 256 l))
unset_good l e =
    record {
      sound = fresh_sound 32 256 l e;
      rooms = refl;
      queues = refl;
      places = refl;
      few = omega arith;
      idle = λ r l i. get_or-replicate {A = ℕ} 32 r 0 0 i;
      heads_lent = (lent_enough_lem 32 256 l e).0;
      cells_lent = (lent_enough_lem 32 256 l e).1;
      spare_lent = (lent_enough_lem 32 256 l e).2;
    }
