-- Arrivals in memory: a good box stays good, with as many lines and slots as it had.
use Rattle.std.proofs.Common.{◌≡◌, ℕ, zero, suc, ◌+◌, ◌-◌, ◌<◌, ◌≤◌, Bool, true, false, ◌&&◌, ltb, List, length, get_or, drop, set, replicate, Some, None, Ok, sym, refl, ap, ◌∙◌, subst, inl, inr, add-one, arith}
use Rattle.std.proofs.lemmas.List.{length-set, get_or-set_same, get_or-set_other, get_or-replicate}
use Rattle.std.proofs.lemmas.List.Sums.{sum_by-set}
use Rattle.std.proofs.lemmas.Bool.{cases_eq, cond_both, ltb-true}
use Rattle.std.proofs.lemmas.Bool.Decides.{nat_tests}
use Rattle.crossbox.specs.declared.Arrival.{Arrival}
use Rattle.crossbox.specs.declared.Arrival.TheVariants.{Nothing, For}
use Rattle.buffer.proofs.Put.{put_sound}
use Rattle.words.specs.Lines.{no_line, Line, read_entry, read_lines, fits, all_fit, judge, verdict}
use Rattle.words.specs.Spelling.{Formed}
use Rattle.words.proofs.Lines.{lines-length, lines_formed, formed_at, fits_at, line_there, line_at}
use Rattle.words.proofs.Scans.{verdict_good}
use Rattle.cioq.specs.State.{State, Good, count_of}
use Rattle.cioq.specs.Arrivals.{Brings, spot, with_cell, turned_away, admit_one, arrivals_of, admit_all, away, lines_or, slot_lines}
use Rattle.cioq.proofs.Room.{place_left, row_room}

-- lines bring nothing, or cells for outputs that are there
abbrev pub AllBring : ℕ → List Line → Type 0
AllBring n ls = (i : ℕ) → i < n → Brings n (arrivals_of ls i) (get_or ls i no_line).body

-- one count raised within 256 leaves the others
raised : (counts : List ℕ) (o : ℕ) → o < length counts → ((p : ℕ) → get_or counts p 0 ≤ 256) → get_or counts o 0 < 256 → (p : ℕ) → get_or (set counts o (get_or counts o 0 + 1)) p 0 ≤ 256
raised counts o l f h p =
    elim (cases_eq p o) [
      | inl e ↦ subst (λ (z : ℕ). get_or (set counts o (get_or counts o 0 + 1)) z 0 ≤ 256) (sym e) (rw get_or-set_same (omega arith))
      | inr ne ↦ subst (λ (z : ℕ). z ≤ 256) (sym (get_or-set_other counts o p (get_or counts o 0 + 1) 0 ne)) (f p)
    ]

-- a box with a cell more is good
pub with_good : (s : State) (i o : ℕ) (body : List ℕ) → Good s → i < s.lines → o < s.lines → count_of s o < 256 → Good (with_cell i o body s)
with_good s i o body g hi ho h =
    let few = g.few in
    let n = g.outputs in
    let left = place_left s g (omega arith) in
    let inside : o < length s.counts = omega arith in
    record {
      sound = put_sound s.mem i (spot i o s) (record { slot = s.slots; input = i; output = o }) body g.sound (omega (arith, g.rows)) (omega arith) (row_room s g i (omega arith) (omega arith)) left;
      rooms = g.rooms;
      rows = g.rows;
      places = g.places;
      few = g.few;
      outputs = simp length-set g.outputs;
      full = raised s.counts o inside g.full h;
      idle = λ p l. get_or-set_other s.counts o p (count_of s o + 1) 0 (λ e. omega arith) ∙ g.idle p l;
      whole = omega (arith, g.whole, sum_by-set (λ x. x) s.counts o (count_of s o + 1) 0 inside);
      heads_lent = simp length-set g.heads_lent;
      cells_lent = simp length-set g.cells_lent;
      spare_lent = g.spare_lent;
    }

admit_good : (s : State) (i : ℕ) (x : Arrival) (body : List ℕ) → Good s → i < s.lines → Brings s.lines x body → Good (admit_one i x body s)
admit_good s i Nothing body g h b = g
admit_good s i (For o) body g h b =
    cond_both (ltb (count_of s o) 256) (with_cell i o body s) s Good
    (λ t. with_good s i o body g h b.0 (ltb-true (count_of s o) 256 t)) (λ t. g)

admit-lines : (s : State) (i : ℕ) (x : Arrival) (body : List ℕ) → (admit_one i x body s).lines ≡ s.lines
admit-lines s i Nothing body = refl
admit-lines s i (For o) body =
    cond_both (ltb (count_of s o) 256) (with_cell i o body s) s (λ z. z.lines ≡ s.lines) (λ t. refl) (λ t. refl)

admit-slots : (s : State) (i : ℕ) (x : Arrival) (body : List ℕ) → (admit_one i x body s).slots ≡ s.slots
admit-slots s i Nothing body = refl
admit-slots s i (For o) body =
    cond_both (ltb (count_of s o) 256) (with_cell i o body s) s (λ z. z.slots ≡ s.slots) (λ t. refl) (λ t. refl)

pub all_lines : (ls : List Line) (k : ℕ) (s : State) → (admit_all ls k s).lines ≡ s.lines
unfolding admit_all
all_lines ls zero s = refl
all_lines ls (suc k) s = admit-lines (admit_all ls k s) k (arrivals_of ls k) (get_or ls k no_line).body ∙ all_lines ls k s

pub all_slots : (ls : List Line) (k : ℕ) (s : State) → (admit_all ls k s).slots ≡ s.slots
unfolding admit_all
all_slots ls zero s = refl
all_slots ls (suc k) s = admit-slots (admit_all ls k s) k (arrivals_of ls k) (get_or ls k no_line).body ∙ all_slots ls k s

-- a good box stays good as lines are admitted
pub all_good : (ls : List Line) (k : ℕ) (s : State) → Good s → k ≤ s.lines → AllBring s.lines ls → Good (admit_all ls k s)
unfolding admit_all
all_good ls zero s g h b = g
all_good ls (suc k) s g h b =
    let e = all_lines ls k s in
    admit_good (admit_all ls k s) k (arrivals_of ls k) (get_or ls k no_line).body (all_good ls k s g (omega arith) b) (omega arith)
    (subst (λ (n : ℕ). Brings n (arrivals_of ls k) (get_or ls k no_line).body) (sym e) (b k (omega arith)))

brings : (n : ℕ) (x : Arrival) (body : List ℕ) → Formed 64 x body → fits n x ≡ true → Brings n x body
brings n Nothing body f h = tt
brings n (For o) body f h = (ltb-true o n h, f.1)

-- lines that are read from a slot's bytes, and fit, bring cells for outputs that are there
pub read_bring : (n : ℕ) (bytes : List ℕ) (ls : List Line) → read_lines 64 n bytes ≡ Some ls → all_fit n ls ≡ true → AllBring n ls
read_bring n bytes ls r f i h =
    let l : i < length ls = omega (arith, lines-length 64 n bytes ls r) in
    brings n (arrivals_of ls i) (get_or ls i no_line).body (formed_at 64 ls i no_line (lines_formed 64 n bytes ls r) l) (fits_at n ls i no_line f l)

-- one more line is admitted
pub admit-more : (ls : List Line) (k : ℕ) (s : State) → admit_all ls (k + 1) s ≡ admit_one k (arrivals_of ls k) (get_or ls k no_line).body (admit_all ls k s)
unfolding admit_all
admit-more ls k s = ap (λ (j : ℕ). admit_all ls j s) (add-one k)

-- none is
pub admit-none : (ls : List Line) (s : State) → admit_all ls 0 s ≡ s
unfolding admit_all
admit-none ls s = refl

-- which of the first k inputs were turned away
abbrev pub Flags : List Bool → ℕ → (ℕ → Bool) → Type 0
Flags flags k f = (length flags ≡ 32) × ((i : ℕ) → i < 32 → get_or flags i false ≡ (ltb i k && f i))

pub flags_more : (flags : List Bool) (k : ℕ) (f : ℕ → Bool) (x : Bool) → Flags flags k f → k < 32 → x ≡ f k → Flags (set flags k x) (k + 1) f
flags_more flags k f x h l e = (
  simp length-set h.0,
  λ i j. elim (cases_eq i k) [
    | inl p ↦ subst (λ (z : ℕ). get_or (set flags k x) z false ≡ (ltb z (k + 1) && f z)) (sym p) (let n : k < length flags = omega (arith, h.0) in get_or-set_same flags k x false n ∙ (e ∙ grind (arith, nat_tests)))
    | inr ne ↦ get_or-set_other flags k i x false ne ∙ (h.1 i j ∙ ap (λ t. t && f i) (grind (arith, nat_tests)))
  ],
)

pub flags_none : (f : ℕ → Bool) → Flags (replicate 32 false) 0 f
flags_none f =
    (refl, λ i h. let z : ltb i 0 ≡ false = grind (arith, nat_tests) in get_or-replicate 32 i false false h ∙ sym (ap (λ t. t && f i) z))

module _ (n : ℕ) (bytes : List ℕ) (ok : Ok tt ≡ verdict (judge n 64 false bytes)) where
  slot_lines_lem : slot_lines n bytes ≡ (verdict_good n 64 false bytes ok).lines
  slot_lines_lem = ap lines_or (verdict_good n 64 false bytes ok).read

  -- the lines of good bytes are read, and bring cells for outputs that are there
  pub slot_read : read_lines 64 n bytes ≡ Some (slot_lines n bytes)
  slot_read = (verdict_good n 64 false bytes ok).read ∙ ap (λ (ls : List Line). Some ls) (sym slot_lines_lem)

  pub slot_bring : AllBring n (slot_lines n bytes)
  slot_bring =
      read_bring n bytes (slot_lines n bytes) slot_read
      (ap (λ (ls : List Line). all_fit n ls) slot_lines_lem ∙ (verdict_good n 64 false bytes ok).fit)

-- at input i, with the lines before admitted: what the step wants and leaves
module _ (ls : List Line) (s₀ s₁ : State) (i : ℕ) (rest : List ℕ) (g : Good s₀) (b : AllBring s₀.lines ls) (h : i < s₀.lines)
    (e : s₁ ≡ admit_all ls i s₀) (r : read_lines 64 (s₀.lines - i) rest ≡ Some (drop i ls)) where
  pub step_lines : s₁.lines ≡ s₀.lines
  step_lines = ap (λ (s : State). s.lines) e ∙ all_lines ls i s₀

  pub step-slots : s₁.slots ≡ s₀.slots
  step-slots = ap (λ (s : State). s.slots) e ∙ all_slots ls i s₀

  pub step_cut : None ≡ read_entry 64 rest → ⊥
  step_cut = line_there 64 s₀.lines i rest ls r h

  module _ (l : Line) (behind : List ℕ) (en : Some (l, behind) ≡ read_entry 64 rest) where
    step_line : l ≡ get_or ls i no_line
    step_line = (line_at 64 s₀.lines i rest ls r h l behind no_line en).0

    pub step_brings : Brings s₁.lines l.arrival l.body
    step_brings =
        subst (λ (n : ℕ). Brings n l.arrival l.body) (sym step_lines)
        (subst (λ (x : Line). Brings s₀.lines x.arrival x.body) (sym step_line) (b i h))

    pub step_after : (s₂ : State) → s₂ ≡ admit_one i l.arrival l.body s₁ → s₂ ≡ admit_all ls (i + 1) s₀
    step_after s₂ q =
        q ∙ (ap (λ (s : State). admit_one i l.arrival l.body s) e
        ∙ (ap (λ (x : Line). admit_one i x.arrival x.body (admit_all ls i s₀)) step_line ∙ sym (admit-more ls i s₀)))

    pub step-rest : read_lines 64 (s₀.lines - (i + 1)) behind ≡ Some (drop (i + 1) ls)
    step-rest = (line_at 64 s₀.lines i rest ls r h l behind no_line en).1

    pub step-away : (x : Bool) → x ≡ turned_away s₁ l.arrival → x ≡ away ls s₀ i
    step-away x q =
        q ∙ (ap (λ (s : State). turned_away s l.arrival) e ∙ ap (λ (z : Line). turned_away (admit_all ls i s₀) z.arrival) step_line)
