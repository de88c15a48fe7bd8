-- Transfers in memory: a good box stays good, and a list is as it was until its input's turn.
use Rattle.std.proofs.Common.{◌≡◌, ℕ, zero, suc, ◌+◌, ◌<◌, ◌≤◌, true, ltb, List, [], ◌∷◌, map, length, sym, refl, ap, ◌∙◌, subst, inl, inr, add-one, arith}
use Rattle.std.specs.List.{insert, remove}
use Rattle.std.proofs.lemmas.List.{length-set}
use Rattle.std.proofs.lemmas.Bool.{cases_eq, and_parts}
use Rattle.std.proofs.lemmas.Bool.Decides.{nat_tests}
use Rattle.crossbox.specs.declared.Arrival.{Arrival}
use Rattle.crossbox.specs.declared.Arrival.TheVariants.{Nothing, For}
use Rattle.crossbox.specs.declared.Cell.{Cell}
use Rattle.crossbox.specs.Cells.{Arrivals}
use Rattle.crossbox.specs.Box.{Box, for_output}
use Rattle.crossbox.specs.Promise.{Fits}
use Rattle.buffer.specs.Memory.{Held, held, held_at, place_at, row_length}
use Rattle.buffer.proofs.Carry.{carry_sound, carry-held_from, carry-held_to, carry-held_other}
use Rattle.cioq.specs.State.{State, Good}
use Rattle.cioq.specs.Spells.{cells, box_of}
use Rattle.cioq.specs.Choice.{waits_in, all_wait}
use Rattle.cioq.specs.Transfers.{position, Sends, place_for, cell_at, sent, transfer_one, transfer_all}
use Rattle.cioq.proofs.Room.{row_room}
use Rattle.cioq.proofs.Lists.{cells-length}

pub place_le : (c : Cell) (l : List Cell) → place_for c l ≤ length l
unfolding place_for
place_le c l = omega arith

-- a list that has a cell for an output has a first one
pub waits_position : (o : ℕ) (l : List Cell) → ltb 0 (length (for_output o l)) ≡ true → position o l < length l
unfolding position for_output
waits_position o [] h = absurd (grind (arith, nat_tests))
waits_position o (c ∷ l) h = let ih = waits_position o l in grind (arith, nat_tests, ih)

pub all_wait_at : (n k : ℕ) (ch : Arrivals) (b : Box) → all_wait n ch b ≡ true → k < n → waits_in (ch k) (b.waiting k) ≡ true
unfolding all_wait
all_wait_at zero k ch b h l = absurd (omega arith)
all_wait_at (suc n) k ch b h l =
    let p = and_parts (waits_in (ch n) (b.waiting n)) (all_wait n ch b) h in
    elim (cases_eq k n) [
      | inl e ↦ subst (λ (z : ℕ). waits_in (ch z) (b.waiting z) ≡ true) (sym e) p.0
      | inr ne ↦ all_wait_at n k ch b p.1 (omega arith)
    ]

-- one cell goes over
module _ (s : State) (i o : ℕ) (g : Good s) (hi : i < s.lines) (ho : o < s.lines) (w : position o (cells s.mem i) < length (cells s.mem i)) where
  from_row : i < s.mem.count
  from_row = omega (arith, g.rows, g.few)

  to_row : s.lines + o < s.mem.count
  to_row = omega (arith, g.rows, g.few)

  pub send_from : position o (cells s.mem i) < row_length s.mem i
  send_from = omega (arith, cells-length s.mem i g.sound from_row)

  pub send_to : (c : Cell) → place_for c (cells s.mem (s.lines + o)) ≤ row_length s.mem (s.lines + o)
  send_to c = omega (arith, cells-length s.mem (s.lines + o) g.sound to_row, place_le c (cells s.mem (s.lines + o)))

  pub send_room : row_length s.mem (s.lines + o) < s.mem.room
  send_room = row_room s g (s.lines + o) (omega arith) (omega (arith, g.few))

  send_apart : s.lines + o ≡ i → ⊥
  send_apart e = omega arith

  k : ℕ
  k = position o (cells s.mem i)

  j : ℕ
  j = place_for (cell_at s.mem i (position o (cells s.mem i))) (cells s.mem (s.lines + o))

  pub sent_good : Good (sent i o s)
  unfolding k j
  sent_good =
      record {
        sound = carry_sound s.mem i k (s.lines + o) j g.sound from_row send_from to_row (send_to _) send_room send_apart;
        rooms = g.rooms;
        rows = g.rows;
        places = g.places;
        few = g.few;
        outputs = g.outputs;
        full = g.full;
        idle = g.idle;
        whole = g.whole;
        heads_lent = simp length-set g.heads_lent;
        cells_lent = g.cells_lent;
        spare_lent = g.spare_lent;
      }

  pub sent_from : held (sent i o s).mem i ≡ remove (held s.mem i) (position o (cells s.mem i))
  unfolding k j
  sent_from = carry-held_from s.mem i k (s.lines + o) j g.sound from_row send_from to_row (send_to _) send_room send_apart

  pub sent_to : held (sent i o s).mem (s.lines + o) ≡ insert (held s.mem (s.lines + o)) (place_for (cell_at s.mem i (position o (cells s.mem i))) (cells s.mem (s.lines + o))) (held_at s.mem (place_at i (position o (cells s.mem i)) s.mem))
  unfolding k j
  sent_to = carry-held_to s.mem i k (s.lines + o) j g.sound from_row send_from to_row (send_to _) send_room send_apart

  pub sent_other : (r : ℕ) → r < 64 → (r ≡ i → ⊥) → (r ≡ s.lines + o → ⊥) → held (sent i o s).mem r ≡ held s.mem r
  unfolding k j
  sent_other r l a b =
      carry-held_other s.mem i k (s.lines + o) j g.sound from_row send_from to_row (send_to _) send_room send_apart r (omega (arith, g.rows)) a b

transfer-lines : (s : State) (i : ℕ) (x : Arrival) → (transfer_one i x s).lines ≡ s.lines
transfer-lines s i Nothing = refl
transfer-lines s i (For o) = refl

transfer-slots : (s : State) (i : ℕ) (x : Arrival) → (transfer_one i x s).slots ≡ s.slots
transfer-slots s i Nothing = refl
transfer-slots s i (For o) = refl

transfer_counts : (s : State) (i : ℕ) (x : Arrival) → (transfer_one i x s).counts ≡ s.counts
transfer_counts s i Nothing = refl
transfer_counts s i (For o) = refl

pub transferred_lines : (k : ℕ) (ch : Arrivals) (s : State) → (transfer_all k ch s).lines ≡ s.lines
unfolding transfer_all
transferred_lines zero ch s = refl
transferred_lines (suc k) ch s = transfer-lines (transfer_all k ch s) k (ch k) ∙ transferred_lines k ch s

pub transferred_slots : (k : ℕ) (ch : Arrivals) (s : State) → (transfer_all k ch s).slots ≡ s.slots
unfolding transfer_all
transferred_slots zero ch s = refl
transferred_slots (suc k) ch s = transfer-slots (transfer_all k ch s) k (ch k) ∙ transferred_slots k ch s

-- as many are held for each output
pub transferred_same : (k : ℕ) (ch : Arrivals) (s : State) → (transfer_all k ch s).counts ≡ s.counts
unfolding transfer_all
transferred_same zero ch s = refl
transferred_same (suc k) ch s = transfer_counts (transfer_all k ch s) k (ch k) ∙ transferred_same k ch s

module _ (ch : Arrivals) (s : State) (g : Good s) (fits : Fits s.lines ch) (waits : all_wait s.lines ch (box_of s.lines s.mem) ≡ true) where
  -- a state with the lines and slots that there are
  abbrev pub plain : State → State
  plain z = record { mem = z.mem; counts = s.counts; lines = s.lines; slots = s.slots }

  pub plain_is : (k : ℕ) → transfer_all k ch s ≡ plain (transfer_all k ch s)
  plain_is k =
      ap (λ (n : ℕ). record { mem = (transfer_all k ch s).mem; counts = (transfer_all k ch s).counts; lines = n; slots = (transfer_all k ch s).slots }) (transferred_lines k ch s)
      ∙ (ap (λ (t : ℕ). record { mem = (transfer_all k ch s).mem; counts = (transfer_all k ch s).counts; lines = s.lines; slots = t }) (transferred_slots k ch s)
      ∙ ap (λ (c : List ℕ). record { mem = (transfer_all k ch s).mem; counts = c; lines = s.lines; slots = s.slots }) (transferred_same k ch s))

  -- what is known when the first k inputs have had their turn
  pub record Going (k : ℕ) : Type 0 where
    pub good : Good (plain (transfer_all k ch s))
    pub still : (i : ℕ) → k ≤ i → i < s.lines → held (transfer_all k ch s).mem i ≡ held s.mem i

  pub next_is : (k : ℕ) → transfer_all (suc k) ch s ≡ transfer_one k (ch k) (plain (transfer_all k ch s))
  unfolding transfer_all
  next_is k = ap (λ (z : State). transfer_one k (ch k) z) (plain_is k)

  module _ (k : ℕ) (h : k < s.lines) (go : Going k) where
    list_is : cells (transfer_all k ch s).mem k ≡ cells s.mem k
    list_is = ap (λ (xs : List Held). map (λ (x : Held). x.cell) xs) (go.still k (omega arith) h)

    pub turn_waits : (o : ℕ) → ch k ≡ For o → position o (cells (transfer_all k ch s).mem k) < length (cells (transfer_all k ch s).mem k)
    turn_waits o e =
        subst (λ (l : List Cell). position o l < length l) (sym list_is)
        (waits_position o (cells s.mem k) (subst (λ (x : Arrival). waits_in x (cells s.mem k) ≡ true) e (all_wait_at s.lines k ch (box_of s.lines s.mem) waits h)))

    turn_good : (x : Arrival) → ch k ≡ x → Good (transfer_one k x (plain (transfer_all k ch s)))
    turn_good Nothing e = go.good
    turn_good (For o) e = sent_good (plain (transfer_all k ch s)) k o go.good h (fits k o h e) (turn_waits o e)

    turn_still : (x : Arrival) → ch k ≡ x → (i : ℕ) → suc k ≤ i → i < s.lines → held (transfer_one k x (plain (transfer_all k ch s))).mem i ≡ held s.mem i
    turn_still Nothing e i a b = go.still i (omega arith) b
    turn_still (For o) e i a b =
        sent_other (plain (transfer_all k ch s)) k o go.good h (fits k o h e) (turn_waits o e) i (omega (arith, g.few)) (λ q. omega arith) (λ q. omega arith)
        ∙ go.still i (omega arith) b

    go_on : Going (suc k)
    go_on =
        record {
          good = subst Good (plain_is (suc k)) (subst Good (sym (next_is k)) (turn_good (ch k) refl));
          still = λ i a b. ap (λ (z : State). held z.mem i) (next_is k) ∙ turn_still (ch k) refl i a b;
        }

  pub going : (k : ℕ) → k ≤ s.lines → Going k
  unfolding transfer_all
  going zero h = record { good = g; still = λ i a b. refl }
  going (suc k) h = go_on k h (going k (omega arith))

  -- a good box stays good
  pub transferred_good : (k : ℕ) → k ≤ s.lines → Good (transfer_all k ch s)
  transferred_good k h = subst Good (sym (plain_is k)) (going k h).good

  -- and the cell that is named at input k waits there when its turn comes
  pub transferred_waits : (k : ℕ) → k < s.lines → (o : ℕ) → ch k ≡ For o → position o (cells (transfer_all k ch s).mem k) < length (cells (transfer_all k ch s).mem k)
  transferred_waits k h = turn_waits k h (going k (omega arith))

pub transfer-none : (ch : Arrivals) (s : State) → transfer_all 0 ch s ≡ s
unfolding transfer_all
transfer-none ch s = refl

pub transfer-more : (k : ℕ) (ch : Arrivals) (s : State) → transfer_all (k + 1) ch s ≡ transfer_one k (ch k) (transfer_all k ch s)
unfolding transfer_all
transfer-more k ch s = ap (λ (n : ℕ). transfer_all n ch s) (add-one k)

-- at input i, when the inputs before have had their turn
module _ (ch : Arrivals) (s₀ s₁ : State) (i : ℕ) (g : Good s₀) (fits : Fits s₀.lines ch) (waits : all_wait s₀.lines ch (box_of s₀.lines s₀.mem) ≡ true)
    (h : i < s₀.lines) (e : s₁ ≡ transfer_all i ch s₀) where
  pub step_lines : s₁.lines ≡ s₀.lines
  step_lines = ap (λ (s : State). s.lines) e ∙ transferred_lines i ch s₀

  pub step_sends : (x : Arrival) → x ≡ ch i → Sends s₁.lines x (cells s₁.mem i)
  step_sends x q =
      subst (λ (z : Arrival). Sends s₁.lines z (cells s₁.mem i)) (sym q)
      (subst (λ (n : ℕ). Sends n (ch i) (cells s₁.mem i)) (sym step_lines)
      (subst (λ (s : State). Sends s₀.lines (ch i) (cells s.mem i)) (sym e) (go (ch i) refl)))
    where
      go : (z : Arrival) → ch i ≡ z → Sends s₀.lines z (cells (transfer_all i ch s₀).mem i)
      go Nothing p = tt
      go (For o) p = (fits i o h p, transferred_waits ch s₀ g fits waits i h o p)

  pub step_after : (s₂ : State) (x : Arrival) → x ≡ ch i → s₂ ≡ transfer_one i x s₁ → s₂ ≡ transfer_all (i + 1) ch s₀
  step_after s₂ x q p =
      p ∙ (ap (λ (z : Arrival). transfer_one i z s₁) q ∙ (ap (λ (s : State). transfer_one i (ch i) s) e ∙ sym (transfer-more i ch s₀)))
