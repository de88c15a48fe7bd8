-- Arrivals against the model: memory that spells a box spells, after the first k inputs, the box to which these have arrived.
use Rattle.std.proofs.Common.{◌≡◌, ℕ, zero, suc, ◌+◌, ◌<◌, ◌≤◌, min, Bool, true, false, cond, not, ◌&&◌, eqb, ltb, List, map, length, get_or, sym, refl, ap, ◌∙◌, subst, inl, inr, arith}
use Rattle.std.specs.List.{insert}
use Rattle.std.proofs.lemmas.List.{get_or-set_same, get_or-set_other}
use Rattle.std.proofs.lemmas.Bool.{cases_eq, cond_both}
use Rattle.std.proofs.lemmas.Bool.Decides.{nat_tests}
use Rattle.crossbox.specs.declared.Arrival.{Arrival}
use Rattle.crossbox.specs.declared.Arrival.TheVariants.{Nothing, For}
use Rattle.crossbox.specs.declared.Cell.{Cell}
use Rattle.crossbox.specs.Cells.{Arrivals}
use Rattle.crossbox.specs.Box.{Box, held_for, one_if, taken_for, room_for, taken, arriving}
use Rattle.crossbox.proofs.Held.{held-arriving}
use Rattle.places.specs.Memory.{Held, held, row_length}
use Rattle.places.proofs.Put.{put-held, put-held_other, map_inserted}
use Rattle.words.specs.Lines.{no_line, Line}
use Rattle.steps.specs.State.{State, Good, count_of}
use Rattle.steps.specs.Spells.{dress, Spells, Counts}
use Rattle.steps.specs.Arrivals.{Brings, spot, with_cell, turned_away, admit_one, arrivals_of, admit_all, away}
use Rattle.steps.proofs.Room.{place_left, row_room}
use Rattle.steps.proofs.Lists.{put_at_inserted, dressed-length}
use Rattle.steps.proofs.Arrivals.{AllBring, all_lines, all_slots, all_good}

abbrev cell_at : ℕ → ℕ → ℕ → Cell
cell_at t i o = record { slot = t; input = i; output = o }

-- one cell that is taken
module _ (bytes : Cell → List ℕ) (s : State) (b : Box) (i o : ℕ) (body : List ℕ) (g : Good s) (hi : i < s.lines) (ho : o < s.lines)
    (lists : held s.mem i ≡ map (dress bytes) (b.waiting i)) (stores : held s.mem (s.lines + o) ≡ map (dress bytes) (b.store o))
    (own : bytes (cell_at s.slots i o) ≡ body) where
  in_rows : i < s.mem.count
  in_rows = omega (arith, g.rows, g.few)

  within : spot i o s ≤ row_length s.mem i
  within = omega arith

  roomy : row_length s.mem i < s.mem.room
  roomy = row_room s g i (omega arith) (omega (arith, g.few))

  some : 0 < s.mem.free
  some = place_left s g (omega arith)

  spot_is : spot i o s ≡ min (length (b.store o)) (length (b.waiting i))
  spot_is =
      let p = dressed-length bytes s.mem (s.lines + o) (b.store o) g.sound (omega (arith, g.rows, g.few)) stores in
      let q = dressed-length bytes s.mem i (b.waiting i) g.sound in_rows lists in
      ap (λ (x : ℕ). min x (row_length s.mem i)) p ∙ ap (λ (x : ℕ). min (length (b.store o)) x) q

  with_here : held (with_cell i o body s).mem i ≡ map (dress bytes) (taken s.slots i (For o) b)
  with_here =
      put-held s.mem i (spot i o s) (cell_at s.slots i o) body g.sound in_rows within roomy some
      ∙ (ap (λ (xs : List Held). insert xs (spot i o s) (record { cell = cell_at s.slots i o; body = body })) lists
      ∙ (ap (λ (x : List ℕ). insert (map (dress bytes) (b.waiting i)) (spot i o s) (record { cell = cell_at s.slots i o; body = x })) (sym own)
      ∙ (sym (map_inserted (dress bytes) (b.waiting i) (spot i o s) (cell_at s.slots i o))
      ∙ ap (λ (xs : List Cell). map (dress bytes) xs) (ap (λ (k : ℕ). insert (b.waiting i) k (cell_at s.slots i o)) spot_is ∙ sym (put_at_inserted (length (b.store o)) (cell_at s.slots i o) (b.waiting i))))))

  with_other : (r : ℕ) → r < 64 → (r ≡ i → ⊥) → held (with_cell i o body s).mem r ≡ held s.mem r
  with_other r l ne =
      put-held_other s.mem i (spot i o s) (cell_at s.slots i o) body g.sound in_rows within roomy some r (omega (arith, g.rows)) ne

-- what arrives by input i, whatever it is
module _ (bytes : Cell → List ℕ) (s : State) (b : Box) (a : Arrivals) (i : ℕ) (body : List ℕ) (g : Good s) (hi : i < s.lines)
    (lists : held s.mem i ≡ map (dress bytes) (b.waiting i))
    (stores : (o : ℕ) → o < s.lines → held s.mem (s.lines + o) ≡ map (dress bytes) (b.store o))
    (counts : (o : ℕ) → o < s.lines → count_of s o ≡ held_for s.lines o b + taken_for 256 (held_for s.lines o b) o a i) where
  one_here : (x : Arrival) → Brings s.lines x body → ((o : ℕ) → x ≡ For o → bytes (cell_at s.slots i o) ≡ body) →
      held (admit_one i x body s).mem i ≡ map (dress bytes) (cond (room_for 256 s.lines i a b x) (taken s.slots i x b) (b.waiting i))
  one_here Nothing br own = lists
  one_here (For o) br own =
      subst (λ (k : ℕ). held (cond (ltb (count_of s o) 256) (with_cell i o body s) s).mem i ≡ map (dress bytes) (cond (ltb k 256) (taken s.slots i (For o) b) (b.waiting i))) (counts o br.0)
      (go (ltb (count_of s o) 256))
    where
      go : (t : Bool) → held (cond t (with_cell i o body s) s).mem i ≡ map (dress bytes) (cond t (taken s.slots i (For o) b) (b.waiting i))
      go true = with_here bytes s b i o body g hi br.0 lists (stores o br.0) (own o refl)
      go false = lists

  one_other : (x : Arrival) → Brings s.lines x body → ((o : ℕ) → x ≡ For o → bytes (cell_at s.slots i o) ≡ body) →
      (r : ℕ) → r < 64 → (r ≡ i → ⊥) → held (admit_one i x body s).mem r ≡ held s.mem r
  one_other Nothing br own r l ne = refl
  one_other (For o) br own r l ne =
      cond_both (ltb (count_of s o) 256) (with_cell i o body s) s (λ z. held z.mem r ≡ held s.mem r)
      (λ t. with_other bytes s b i o body g hi br.0 lists (stores o br.0) (own o refl) r l ne) (λ t. refl)

  one-count : (x : Arrival) → Brings s.lines x body → (p : ℕ) → p < s.lines →
      count_of (admit_one i x body s) p ≡ held_for s.lines p b + (taken_for 256 (held_for s.lines p b) p a i + one_if p x (ltb (held_for s.lines p b + taken_for 256 (held_for s.lines p b) p a i) 256))
  one-count Nothing br p l = omega (arith, counts p l)
  one-count (For o) br p l =
      let e = counts p l in
      let few = g.few in
      let n = g.outputs in
      elim (cases_eq o p) [
        | inl q ↦
            subst (λ (k : ℕ). count_of (cond (ltb (count_of s k) 256) (with_cell i k body s) s) p ≡ held_for s.lines p b + (taken_for 256 (held_for s.lines p b) p a i + cond (eqb k p && ltb (held_for s.lines p b + taken_for 256 (held_for s.lines p b) p a i) 256) 1 0)) (sym q)
            (subst (λ (c : ℕ). count_of (cond (ltb c 256) (with_cell i p body s) s) p ≡ held_for s.lines p b + (taken_for 256 (held_for s.lines p b) p a i + cond (eqb p p && ltb (held_for s.lines p b + taken_for 256 (held_for s.lines p b) p a i) 256) 1 0)) (sym e)
            (let y : eqb p p ≡ true = grind (arith, nat_tests) in
            subst (λ (w : Bool). count_of (cond (ltb (held_for s.lines p b + taken_for 256 (held_for s.lines p b) p a i) 256) (with_cell i p body s) s) p ≡ held_for s.lines p b + (taken_for 256 (held_for s.lines p b) p a i + cond (w && ltb (held_for s.lines p b + taken_for 256 (held_for s.lines p b) p a i) 256) 1 0)) (sym y)
            (here p e l (omega arith) (ltb (held_for s.lines p b + taken_for 256 (held_for s.lines p b) p a i) 256))))
        | inr ne ↦
            let y : eqb o p ≡ false = grind (arith, nat_tests) in
            subst (λ (w : Bool). count_of (cond (ltb (count_of s o) 256) (with_cell i o body s) s) p ≡ held_for s.lines p b + (taken_for 256 (held_for s.lines p b) p a i + cond (w && ltb (held_for s.lines p b + taken_for 256 (held_for s.lines p b) p a i) 256) 1 0)) (sym y)
            (cond_both (ltb (count_of s o) 256) (with_cell i o body s) s (λ z. count_of z p ≡ held_for s.lines p b + (taken_for 256 (held_for s.lines p b) p a i + 0))
            (λ t. omega (arith, get_or-set_other s.counts o p (count_of s o + 1) 0 (λ q. ne (sym q)))) (λ t. omega arith))
      ]
    where
      here : (p : ℕ) → count_of s p ≡ held_for s.lines p b + taken_for 256 (held_for s.lines p b) p a i → p < s.lines → p < length s.counts → (t : Bool) →
          count_of (cond t (with_cell i p body s) s) p ≡ held_for s.lines p b + (taken_for 256 (held_for s.lines p b) p a i + cond t 1 0)
      here p e l k true = omega (arith, get_or-set_same s.counts p (count_of s p + 1) 0 k)
      here p e l k false = omega arith

-- the first k inputs' lines
module _ (bytes : Cell → List ℕ) (ls : List Line) (s : State) (b : Box) (g : Good s) (br : AllBring s.lines ls)
    (sp : Spells bytes s.lines s.mem b) (ct : Counts s.lines s.counts b)
    (own : (i o : ℕ) → i < s.lines → arrivals_of ls i ≡ For o → bytes (cell_at s.slots i o) ≡ (get_or ls i no_line).body) where
  -- the box to which the first k inputs' cells have arrived
  abbrev box_at : ℕ → Box
  box_at k = arriving k 256 s.lines s.slots (arrivals_of ls) b

  waiting_here : (k : ℕ) → (box_at (suc k)).waiting k ≡ cond (room_for 256 s.lines k (arrivals_of ls) b (arrivals_of ls k)) (taken s.slots k (arrivals_of ls k) b) (b.waiting k)
  waiting_here k =
      let y : ltb k (suc k) ≡ true = grind (arith, nat_tests) in
      ap (λ (w : Bool). cond (w && room_for 256 s.lines k (arrivals_of ls) b (arrivals_of ls k)) (taken s.slots k (arrivals_of ls k) b) (b.waiting k)) y

  waiting_before : (k : ℕ) → (box_at k).waiting k ≡ b.waiting k
  waiting_before k =
      let y : ltb k k ≡ false = grind (arith, nat_tests) in
      ap (λ (w : Bool). cond (w && room_for 256 s.lines k (arrivals_of ls) b (arrivals_of ls k)) (taken s.slots k (arrivals_of ls k) b) (b.waiting k)) y

  waiting_other : (k j : ℕ) → (j ≡ k → ⊥) → (box_at (suc k)).waiting j ≡ (box_at k).waiting j
  waiting_other k j ne =
      let y : ltb j (suc k) ≡ ltb j k = grind (arith, nat_tests) in
      ap (λ (w : Bool). cond (w && room_for 256 s.lines j (arrivals_of ls) b (arrivals_of ls j)) (taken s.slots j (arrivals_of ls j) b) (b.waiting j)) y

  -- what is known after the first k
  record After (k : ℕ) : Type 0 where
    lists : (i : ℕ) → i < s.lines → held (admit_all ls k s).mem i ≡ map (dress bytes) ((box_at k).waiting i)
    stores : (o : ℕ) → o < s.lines → held (admit_all ls k s).mem (s.lines + o) ≡ map (dress bytes) (b.store o)
    counts : (o : ℕ) → o < s.lines → count_of (admit_all ls k s) o ≡ held_for s.lines o b + taken_for 256 (held_for s.lines o b) o (arrivals_of ls) k

  -- a state with the lines and slots that there are
  abbrev plain : State → State
  plain z = record { mem = z.mem; counts = z.counts; lines = s.lines; slots = s.slots; firsts = z.firsts }

  plain_is : (k : ℕ) → admit_all ls k s ≡ plain (admit_all ls k s)
  plain_is k =
      ap (λ (n : ℕ). record { mem = (admit_all ls k s).mem; counts = (admit_all ls k s).counts; lines = n; slots = (admit_all ls k s).slots; firsts = (admit_all ls k s).firsts }) (all_lines ls k s)
      ∙ ap (λ (t : ℕ). record { mem = (admit_all ls k s).mem; counts = (admit_all ls k s).counts; lines = s.lines; slots = t; firsts = (admit_all ls k s).firsts }) (all_slots ls k s)

  module _ (k : ℕ) (h : k < s.lines) (ih : After k) where
    p_good : Good (plain (admit_all ls k s))
    p_good = subst Good (plain_is k) (all_good ls k s g (omega arith) br)

    p_list : held (admit_all ls k s).mem k ≡ map (dress bytes) (b.waiting k)
    p_list = ih.lists k h ∙ ap (λ (xs : List Cell). map (dress bytes) xs) (waiting_before k)

    step_is : admit_all ls (suc k) s ≡ admit_one k (arrivals_of ls k) (get_or ls k no_line).body (plain (admit_all ls k s))
    unfolding admit_all
    step_is = ap (λ (z : State). admit_one k (arrivals_of ls k) (get_or ls k no_line).body z) (plain_is k)

    step_here : held (admit_all ls (suc k) s).mem k ≡ map (dress bytes) ((box_at (suc k)).waiting k)
    step_here =
        ap (λ (z : State). held z.mem k) step_is
        ∙ (one_here bytes (plain (admit_all ls k s)) b (arrivals_of ls) k (get_or ls k no_line).body p_good h p_list ih.stores ih.counts (arrivals_of ls k) (br k h) (λ o e. own k o h e)
        ∙ ap (λ (xs : List Cell). map (dress bytes) xs) (sym (waiting_here k)))

    step_other : (r : ℕ) → r < 64 → (r ≡ k → ⊥) → held (admit_all ls (suc k) s).mem r ≡ held (admit_all ls k s).mem r
    step_other r l ne =
        ap (λ (z : State). held z.mem r) step_is
        ∙ one_other bytes (plain (admit_all ls k s)) b (arrivals_of ls) k (get_or ls k no_line).body p_good h p_list ih.stores ih.counts (arrivals_of ls k) (br k h) (λ o e. own k o h e) r l ne

    step : After (suc k)
    unfolding taken_for
    step =
        record {
          lists = λ i l. elim (cases_eq i k) [
            | inl e ↦ subst (λ (j : ℕ). held (admit_all ls (suc k) s).mem j ≡ map (dress bytes) ((box_at (suc k)).waiting j)) (sym e) step_here
            | inr ne ↦ step_other i (omega (arith, g.few)) ne ∙ (ih.lists i l ∙ ap (λ (xs : List Cell). map (dress bytes) xs) (sym (waiting_other k i ne)))
          ];
          stores = λ o l. step_other (s.lines + o) (omega (arith, g.few)) (λ e. omega arith) ∙ ih.stores o l;
          counts = λ o l. ap (λ (z : State). count_of z o) step_is
              ∙ one-count bytes (plain (admit_all ls k s)) b (arrivals_of ls) k (get_or ls k no_line).body p_good h p_list ih.stores ih.counts (arrivals_of ls k) (br k h) o l;
        }

  after : (k : ℕ) → k ≤ s.lines → After k
  unfolding admit_all taken_for
  after zero h =
      record {
        lists = λ i l. sp.lists i l ∙ ap (λ (xs : List Cell). map (dress bytes) xs) (let y : ltb i 0 ≡ false = grind (arith, nat_tests) in sym (ap (λ (w : Bool). cond (w && room_for 256 s.lines i (arrivals_of ls) b (arrivals_of ls i)) (taken s.slots i (arrivals_of ls i) b) (b.waiting i)) y));
        stores = sp.stores;
        counts = λ o l. omega (arith, ct o l);
      }
  after (suc k) h = step k h (after k (omega arith))

  -- memory spells the box to which the first k inputs' cells have arrived
  pub admitted_spells : (k : ℕ) → k ≤ s.lines → Spells bytes s.lines (admit_all ls k s).mem (arriving k 256 s.lines s.slots (arrivals_of ls) b)
  admitted_spells k h = record { lists = (after k h).lists; stores = (after k h).stores }

  -- and the counts are of what that box holds
  pub admitted_counts : (k : ℕ) → k ≤ s.lines → Counts s.lines (admit_all ls k s).counts (arriving k 256 s.lines s.slots (arrivals_of ls) b)
  admitted_counts k h o l = (after k h).counts o l ∙ sym (held-arriving k 256 s.lines s.slots o (arrivals_of ls) b s.lines h)

  -- an input's cell is turned away just where there is no room for it
  pub admitted-away : (i : ℕ) → i < s.lines → away ls s i ≡ not (room_for 256 s.lines i (arrivals_of ls) b (arrivals_of ls i))
  admitted-away i h = go (arrivals_of ls i) (br i h)
    where
      go : (x : Arrival) → Brings s.lines x (get_or ls i no_line).body → turned_away (admit_all ls i s) x ≡ not (room_for 256 s.lines i (arrivals_of ls) b x)
      go Nothing q = refl
      go (For o) q = ap (λ (c : ℕ). not (ltb c 256)) ((after i (omega arith)).counts o q.0)
