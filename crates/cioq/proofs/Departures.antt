-- Departures in memory: a good box stays good, and the bytes of what leaves stand one after the other.
use Rattle.std.proofs.Common.{◌≡◌, ℕ, zero, suc, ◌+◌, ◌-◌, ◌<◌, ◌≤◌, Bool, false, cond, eqb, List, [], ◌++◌, length, get_or, set, Some, None, sym, refl, ap, ◌∙◌, subst, inl, inr, add-one, arith}
use Rattle.std.proofs.lemmas.List.{length-set, get_or-set_same, get_or-set_other}
use Rattle.std.proofs.lemmas.List.Sums.{sum_by-set}
use Rattle.std.proofs.lemmas.Bool.{cases_eq, cond_both}
use Rattle.std.proofs.lemmas.Bool.Decides.{nat_tests}
use Rattle.crossbox.specs.declared.Cell.{Cell}
use Rattle.places.specs.Head.{cell_of}
use Rattle.buffer.specs.Memory.{row_length, head_at, place_at}
use Rattle.buffer.proofs.Remove.{remove_sound}
use Rattle.words.specs.Answer.{leaving}
use Rattle.words.specs.Writing.{Draft, appended}
use Rattle.words.proofs.Overwrites.{appended_then, appended-none}
use Rattle.cioq.specs.State.{State, Good, Counted, count_of}
use Rattle.cioq.specs.Departures.{without_first, depart_one, depart_all, departure_of, departing_bytes}

module _ (s : State) (o : ℕ) (h : row_length s.mem (s.lines + o) ≡ 0 → ⊥) where
  full_store : eqb (row_length s.mem (s.lines + o)) 0 ≡ false
  full_store = grind (arith, nat_tests)

  pub departs-first : depart_one o s ≡ without_first o s
  departs-first = ap (λ (t : Bool). cond t s (without_first o s)) full_store

  pub departure-first : (c : Cell) (body : List ℕ) → c ≡ cell_of (head_at s.mem (place_at (s.lines + o) 0 s.mem)) → body ≡ get_or s.mem.cells (place_at (s.lines + o) 0 s.mem) [] → departure_of o s ≡ Some (c, body)
  departure-first c body e f =
      ap (λ (t : Bool). cond t None (Some (cell_of (head_at s.mem (place_at (s.lines + o) 0 s.mem)), get_or s.mem.cells (place_at (s.lines + o) 0 s.mem) []))) full_store
      ∙ (ap (λ (x : Cell). Some (x, get_or s.mem.cells (place_at (s.lines + o) 0 s.mem) [])) (sym e) ∙ ap (λ (x : List ℕ). Some (c, x)) (sym f))

lowered : (counts : List ℕ) (o : ℕ) → ((p : ℕ) → get_or counts p 0 ≤ 256) → o < length counts → (p : ℕ) → get_or (set counts o (get_or counts o 0 - 1)) p 0 ≤ 256
lowered counts o f l p =
    elim (cases_eq p o) [
      | inl e ↦ subst (λ (z : ℕ). get_or (set counts o (get_or counts o 0 - 1)) z 0 ≤ 256) (sym e) (let b = f o in rw get_or-set_same (omega arith))
      | inr ne ↦ subst (λ (z : ℕ). z ≤ 256) (sym (get_or-set_other counts o p (get_or counts o 0 - 1) 0 ne)) (f p)
    ]

-- and one with a cell less
pub without_good : (s : State) (o : ℕ) → Good s → o < s.lines → 0 < row_length s.mem (s.lines + o) → row_length s.mem (s.lines + o) ≤ count_of s o → Good (without_first o s)
without_good s o g h some c =
    let few = g.few in
    let n = g.outputs in
    let inside : o < length s.counts = omega arith in
    record {
      sound = remove_sound s.mem (s.lines + o) 0 g.sound (omega (arith, g.rows)) some;
      rooms = g.rooms;
      rows = g.rows;
      places = g.places;
      few = g.few;
      outputs = simp length-set g.outputs;
      full = lowered s.counts o g.full inside;
      idle = λ p l. get_or-set_other s.counts o p (count_of s o - 1) 0 (λ e. omega arith) ∙ g.idle p l;
      whole = omega (arith, g.whole, sum_by-set (λ x. x) s.counts o (count_of s o - 1) 0 inside);
      heads_lent = simp length-set g.heads_lent;
      cells_lent = g.cells_lent;
      spare_lent = simp length-set g.spare_lent;
    }

-- good, and of the cells in stores none uncounted
abbrev Sure : State → Type 0
Sure s = Good s × Counted s

without_counted : (s : State) (o : ℕ) → Good s → o < s.lines → Counted s → Counted (without_first o s)
without_counted s o g h c p l =
    let few = g.few in
    let rows : s.lines + o < length s.mem.lens = omega (arith, g.rows, g.sound.lens_count) in
    let outs : o < length s.counts = omega (arith, g.outputs) in
    elim (cases_eq p o) [
      | inl e ↦
          subst (λ (z : ℕ). get_or (set s.mem.lens (s.lines + o) (row_length s.mem (s.lines + o) - 1)) (s.lines + z) 0 ≤ get_or (set s.counts o (count_of s o - 1)) z 0) (sym e)
          (omega (arith, get_or-set_same s.mem.lens (s.lines + o) (row_length s.mem (s.lines + o) - 1) 0 rows, get_or-set_same s.counts o (count_of s o - 1) 0 outs, c o h))
      | inr ne ↦
          omega (arith, get_or-set_other s.mem.lens (s.lines + o) (s.lines + p) (row_length s.mem (s.lines + o) - 1) 0 (λ e. ne (omega arith)), get_or-set_other s.counts o p (count_of s o - 1) 0 ne, c p l)
    ]

depart_sure : (s : State) (o : ℕ) → o < s.lines → Sure s → Sure (depart_one o s)
depart_sure s o h c =
    cond_both (eqb (row_length s.mem (s.lines + o)) 0) s (without_first o s) Sure (λ t. c)
    (λ t. (without_good s o c.0 h (grind (arith, nat_tests)) (c.1 o h), without_counted s o c.0 h c.1))

depart-lines : (s : State) (o : ℕ) → (depart_one o s).lines ≡ s.lines
depart-lines s o =
    cond_both (eqb (row_length s.mem (s.lines + o)) 0) s (without_first o s) (λ z. z.lines ≡ s.lines) (λ t. refl) (λ t. refl)

depart-slots : (s : State) (o : ℕ) → (depart_one o s).slots ≡ s.slots
depart-slots s o =
    cond_both (eqb (row_length s.mem (s.lines + o)) 0) s (without_first o s) (λ z. z.slots ≡ s.slots) (λ t. refl) (λ t. refl)

pub departed-lines : (k : ℕ) (s : State) → (depart_all k s).lines ≡ s.lines
unfolding depart_all
departed-lines zero s = refl
departed-lines (suc k) s = depart-lines (depart_all k s) k ∙ departed-lines k s

pub departed-slots : (k : ℕ) (s : State) → (depart_all k s).slots ≡ s.slots
unfolding depart_all
departed-slots zero s = refl
departed-slots (suc k) s = depart-slots (depart_all k s) k ∙ departed-slots k s

departed_sure : (k : ℕ) (s : State) → k ≤ s.lines → Sure s → Sure (depart_all k s)
unfolding depart_all
departed_sure zero s h c = c
departed_sure (suc k) s h c =
    depart_sure (depart_all k s) k (omega (arith, departed-lines k s)) (departed_sure k s (omega arith) c)

-- a good box stays good as cells leave
pub departed_good : (k : ℕ) (s : State) → Good s → Counted s → k ≤ s.lines → Good (depart_all k s)
departed_good k s g c h = (departed_sure k s h (g, c)).0

pub departed_counted : (k : ℕ) (s : State) → Good s → Counted s → k ≤ s.lines → Counted (depart_all k s)
departed_counted k s g c h = (departed_sure k s h (g, c)).1

-- one more leaves
pub depart-more : (k : ℕ) (s : State) → depart_all (k + 1) s ≡ depart_one k (depart_all k s)
unfolding depart_all
depart-more k s = ap (λ (j : ℕ). depart_all j s) (add-one k)

pub depart-none : (s : State) → depart_all 0 s ≡ s
unfolding depart_all
depart-none s = refl

pub bytes_more : (k : ℕ) (s : State) → departing_bytes (k + 1) s ≡ departing_bytes k s ++ leaving (departure_of k (depart_all k s))
unfolding departing_bytes
bytes_more k s = ap (λ (j : ℕ). departing_bytes j s) (add-one k)

pub bytes_none : (s : State) → departing_bytes 0 s ≡ []
unfolding departing_bytes
bytes_none s = refl

-- before the first output
pub start_written : (s : State) (w : Draft) → w ≡ appended (departing_bytes 0 s) w
start_written s w = sym (ap (λ (bs : List ℕ). appended bs w) (bytes_none s) ∙ appended-none w)

-- at output i, when what leaves by those before is written
module _ (s₀ s₁ : State) (i : ℕ) (e : s₁ ≡ depart_all i s₀) where
  pub step-departed : (s₂ : State) → s₂ ≡ depart_one i s₁ → s₂ ≡ depart_all (i + 1) s₀
  step-departed s₂ q = q ∙ (ap (λ (s : State). depart_one i s) e ∙ sym (depart-more i s₀))

  pub step_written : (w before last : Draft) → before ≡ appended (departing_bytes i s₀) w →
      last ≡ appended (leaving (departure_of i s₁)) before → last ≡ appended (departing_bytes (i + 1) s₀) w
  step_written w before last p q =
      q ∙ ap (λ (z : Draft). appended (leaving (departure_of i s₁)) z) p
      ∙ appended_then (departing_bytes i s₀) (leaving (departure_of i s₁)) w
      ∙ ap (λ (s : State). appended (departing_bytes i s₀ ++ leaving (departure_of i s)) w) e
      ∙ ap (λ (bs : List ℕ). appended bs w) (sym (bytes_more i s₀))
