-- Transfers against the model: memory that spells a box spells, when the named cells have gone, the box with these transferred.
use Rattle.std.proofs.Common.{◌≡◌, ℕ, zero, suc, ◌+◌, ◌<◌, ◌≤◌, Bool, true, false, cond, ◌&&◌, eqb, List, [], ◌∷◌, map, length, get_or, Some, Option, sym, refl, ap, ◌∙◌, subst, inl, inr, arith}
use Rattle.std.specs.List.{insert, remove}
use Rattle.std.proofs.lemmas.List.{get_or-map, get_or_default}
use Rattle.std.proofs.lemmas.Bool.{cases_eq, cases_Bool, and_parts}
use Rattle.std.proofs.lemmas.Bool.Decides.{nat_tests}
use Rattle.crossbox.specs.declared.Arrival.{Arrival}
use Rattle.crossbox.specs.declared.Arrival.TheVariants.{Nothing, For}
use Rattle.crossbox.specs.declared.Cell.{Cell}
use Rattle.crossbox.specs.Cells.{Arrivals, same, is_in}
use Rattle.crossbox.specs.Box.{Box, Stable, for_output, slip, slip_all, without_all, transfer}
use Rattle.crossbox.specs.Promise.{Fits}
use Rattle.crossbox.specs.Shape.{rises}
use Rattle.crossbox.proofs.Shape.{Placed}
use Rattle.crossbox.proofs.Cells.{same_refl}
use Rattle.crossbox.proofs.Asking.{some_eq, some-none}
use Rattle.crossbox.proofs.Held.{held-transfer}
use Rattle.buffer.specs.Memory.{Held, held, held_at, place_at}
use Rattle.buffer.proofs.Put.{map_inserted}
use Rattle.buffer.proofs.Remove.{map_removed}
use Rattle.cioq.specs.State.{State, Good}
use Rattle.cioq.specs.Spells.{dress, Spells, Counts, cells, box_of}
use Rattle.cioq.specs.Choice.{first_for, named, also, picks, waits_in, all_wait, named_before, is_new, one_output}
use Rattle.cioq.specs.Transfers.{position, place_for, cell_at, sent, transfer_one, transfer_all}
use Rattle.cioq.proofs.Lists.{spelled-cells, cells_at, held_at_lem}
use Rattle.cioq.proofs.Named.{first-position, first_in, AtHome, picks_out, picks_into, none-picked, without-none, without-one}
use Rattle.cioq.proofs.Places.{place_slip}
use Rattle.cioq.proofs.Transfers.{plain, Going, going, next_is, sent_from, sent_to, sent_other, transferred_same, turn_waits, send_from, waits_position, all_wait_at}

-- boxes whose lists agree are judged alike
pub all_wait_alike : (n : ℕ) (ch : Arrivals) (b d : Box) → ((i : ℕ) → i < n → b.waiting i ≡ d.waiting i) → all_wait n ch b ≡ all_wait n ch d
unfolding all_wait
all_wait_alike zero ch b d f = refl
all_wait_alike (suc n) ch b d f =
    ap (λ (l : List Cell). waits_in (ch n) l && all_wait n ch b) (f n (omega arith))
    ∙ ap (λ (t : Bool). waits_in (ch n) (d.waiting n) && t) (all_wait_alike n ch b d (λ i h. f i (omega arith)))

pub one_output_at : (n k : ℕ) (ch : Arrivals) → one_output n ch ≡ true → k < n → is_new k ch (ch k) ≡ true
unfolding one_output
one_output_at zero k ch h l = absurd (omega arith)
one_output_at (suc n) k ch h l =
    let p = and_parts (is_new n ch (ch n)) (one_output n ch) h in
    elim (cases_eq k n) [
      | inl e ↦ subst (λ (z : ℕ). is_new z ch (ch z) ≡ true) (sym e) p.0
      | inr ne ↦ one_output_at n k ch p.1 (omega arith)
    ]

-- a list less what is named in it
abbrev less_named : Arrival → List Cell → List Cell
less_named Nothing l = l
less_named (For o) l = remove l (position o l)

-- one cell goes over
module _ (bytes : Cell → List ℕ) (s : State) (i o : ℕ) (g : Good s) (hi : i < s.lines) (ho : o < s.lines) (l st : List Cell)
    (lists : held s.mem i ≡ map (dress bytes) l) (stores : held s.mem (s.lines + o) ≡ map (dress bytes) st)
    (w : position o (cells s.mem i) < length (cells s.mem i)) where
  list_is : cells s.mem i ≡ l
  list_is = spelled-cells bytes s.mem i l lists

  store_is : cells s.mem (s.lines + o) ≡ st
  store_is = spelled-cells bytes s.mem (s.lines + o) st stores

  -- the cell that goes
  abbrev c : Cell
  c = cell_at s.mem i (position o (cells s.mem i))

  c_there : get_or l (position o l) c ≡ c
  c_there =
      subst (λ (xs : List Cell). get_or xs (position o xs) (cell_at s.mem i (position o (cells s.mem i))) ≡ cell_at s.mem i (position o (cells s.mem i))) list_is
      (cells_at s.mem i (position o (cells s.mem i)) (cell_at s.mem i (position o (cells s.mem i))) g.sound (omega (arith, g.rows, g.few)) (send_from s i o g hi ho w))

  c-within : position o l < length l
  c-within = subst (λ (xs : List Cell). position o xs < length xs) list_is w

  c-named : first_for o l ≡ Some c
  c-named = first-position o l c c-within ∙ ap (λ (x : Cell). Some x) c_there

  c-held : held_at s.mem (place_at i (position o (cells s.mem i)) s.mem) ≡ dress bytes c
  c-held =
      sym (held_at_lem s.mem i (position o (cells s.mem i)) (dress bytes c) g.sound (omega (arith, g.rows, g.few)) (send_from s i o g hi ho w))
      ∙ (ap (λ (xs : List Held). get_or xs (position o (cells s.mem i)) (dress bytes c)) lists
      ∙ (ap (λ (xs : List Cell). get_or (map (dress bytes) l) (position o xs) (dress bytes c)) list_is
      ∙ (get_d_dress (position o l) l c-within ∙ ap (λ (x : Cell). dress bytes x) c_there)))
    where
      get_d_dress : (k : ℕ) (xs : List Cell) → k < length xs → get_or (map (dress bytes) xs) k (dress bytes c) ≡ dress bytes (get_or xs k c)
      get_d_dress k xs h = get_or-map (dress bytes) xs k c (dress bytes c) h

  go_from : held (sent i o s).mem i ≡ map (dress bytes) (remove l (position o l))
  go_from =
      sent_from s i o g hi ho w
      ∙ (ap (λ (xs : List Held). remove xs (position o (cells s.mem i))) lists
      ∙ (ap (λ (xs : List Cell). remove (map (dress bytes) l) (position o xs)) list_is ∙ sym (map_removed (dress bytes) l (position o l))))

  go_to : rises st ≡ true → held (sent i o s).mem (s.lines + o) ≡ map (dress bytes) (slip c st)
  go_to up =
      sent_to s i o g hi ho w
      ∙ (ap (λ (x : Held). insert (held s.mem (s.lines + o)) (place_for c (cells s.mem (s.lines + o))) x) c-held
      ∙ (ap (λ (xs : List Held). insert xs (place_for c (cells s.mem (s.lines + o))) (dress bytes c)) stores
      ∙ (ap (λ (xs : List Cell). insert (map (dress bytes) st) (place_for c xs) (dress bytes c)) store_is
      ∙ (sym (map_inserted (dress bytes) st (place_for c st) c) ∙ ap (λ (xs : List Cell). map (dress bytes) xs) (place_slip c st up)))))

module _ (bytes : Cell → List ℕ) (ch : Arrivals) (s : State) (b : Box) (t : ℕ) (g : Good s) (fits : Fits s.lines ch) (sp : Spells bytes s.lines s.mem b)
    (pl : Placed s.lines t b) (waits : all_wait s.lines ch b ≡ true) (one : one_output s.lines ch ≡ true) where
  -- the cells that are named wait in memory
  pub waits_there : all_wait s.lines ch (box_of s.lines s.mem) ≡ true
  waits_there = all_wait_alike s.lines ch (box_of s.lines s.mem) b (λ i h. spelled-cells bytes s.mem i (b.waiting i) (sp.lists i h)) ∙ waits

  -- what is known when the first k inputs have had their turn
  record After (k : ℕ) : Type 0 where
    go : Going ch s g fits waits_there k
    done : (i : ℕ) → i < k → held (transfer_all k ch s).mem i ≡ map (dress bytes) (less_named (ch i) (b.waiting i))
    stores : (o : ℕ) → o < s.lines → held (transfer_all k ch s).mem (s.lines + o) ≡ map (dress bytes) (slip_all (for_output o (picks k ch b)) (b.store o))

  module _ (k : ℕ) (h : k < s.lines) (ih : After k) where
    -- as it is before the turn of input k
    abbrev now : State
    now = plain ch s g fits waits_there (transfer_all k ch s)

    list_then : held now.mem k ≡ map (dress bytes) (b.waiting k)
    list_then = ih.go.still k (omega arith) h ∙ sp.lists k h

    module _ (o : ℕ) (e : ch k ≡ For o) where
      there : o < s.lines
      there = fits k o h e

      ready : position o (cells now.mem k) < length (cells now.mem k)
      ready = turn_waits ch s g fits waits_there k h ih.go o e

      none_yet : for_output o (picks k ch b) ≡ []
      none_yet =
          none-picked ch b k o
          (let n = subst (λ (x : Arrival). is_new k ch x ≡ true) e (one_output_at s.lines k ch one h) in
          elim (cases_Bool (named_before k ch o)) [ inl q ↦ absurd (grind arith) | inr q ↦ q ])

      store_then : held now.mem (s.lines + o) ≡ map (dress bytes) (b.store o)
      unfolding slip_all
      store_then = ih.stores o there ∙ ap (λ (xs : List Cell). map (dress bytes) (slip_all xs (b.store o))) none_yet

      gone : Cell
      gone = c bytes now k o ih.go.good h there (b.waiting k) (b.store o) list_then store_then ready

      gone-named : first_for o (b.waiting k) ≡ Some gone
      unfolding gone
      gone-named = c-named bytes now k o ih.go.good h there (b.waiting k) (b.store o) list_then store_then ready

      gone_output : gone.output ≡ o
      gone_output = (first_in o (b.waiting k) gone gone-named).1

      picks_more : picks (suc k) ch b ≡ gone ∷ picks k ch b
      unfolding picks
      picks_more = ap (λ (x : Arrival). also (named x (b.waiting k)) (picks k ch b)) e ∙ ap (λ (x : Option Cell). also x (picks k ch b)) gone-named

      to_own : held (sent k o now).mem (s.lines + o) ≡ map (dress bytes) (slip_all (for_output o (picks (suc k) ch b)) (b.store o))
      unfolding gone slip_all for_output
      to_own =
          go_to bytes now k o ih.go.good h there (b.waiting k) (b.store o) list_then store_then ready (pl.rising o)
          ∙ ap (λ (xs : List Cell). map (dress bytes) xs)
          (let y : eqb gone.output o ≡ true = (let q = gone_output in grind (arith, nat_tests)) in
          sym (ap (λ (ms : List Cell). slip_all (for_output o ms) (b.store o)) picks_more
          ∙ (ap (λ (w : Bool). slip_all (cond w (gone ∷ for_output o (picks k ch b)) (for_output o (picks k ch b))) (b.store o)) y
          ∙ ap (λ (xs : List Cell). slip gone (slip_all xs (b.store o))) none_yet)))

      to_other : (p : ℕ) → p < s.lines → (p ≡ o → ⊥) → held (sent k o now).mem (s.lines + p) ≡ map (dress bytes) (slip_all (for_output p (picks (suc k) ch b)) (b.store p))
      unfolding for_output
      to_other p l ne =
          sent_other now k o ih.go.good h there ready (s.lines + p) (omega (arith, g.few)) (λ q. omega arith) (λ q. ne (omega arith))
          ∙ (ih.stores p l ∙ ap (λ (xs : List Cell). map (dress bytes) (slip_all xs (b.store p)))
          (let y : eqb gone.output p ≡ false = (let q = gone_output in grind (arith, nat_tests)) in
          sym (ap (λ (ms : List Cell). for_output p ms) picks_more
          ∙ ap (λ (w : Bool). cond w (gone ∷ for_output p (picks k ch b)) (for_output p (picks k ch b))) y)))

    turn_done : (x : Arrival) → ch k ≡ x → held (transfer_one k x now).mem k ≡ map (dress bytes) (less_named x (b.waiting k))
    turn_done Nothing e = list_then
    turn_done (For o) e = go_from bytes now k o ih.go.good h (there o e) (b.waiting k) (b.store o) list_then (store_then o e) (ready o e)

    turn_before : (x : Arrival) → ch k ≡ x → (i : ℕ) → i < k → held (transfer_one k x now).mem i ≡ held now.mem i
    turn_before Nothing e i l = refl
    turn_before (For o) e i l =
        sent_other now k o ih.go.good h (there o e) (ready o e) i (omega (arith, g.few)) (λ q. omega arith) (λ q. omega arith)

    turn_stores : (x : Arrival) → ch k ≡ x → (p : ℕ) → p < s.lines → held (transfer_one k x now).mem (s.lines + p) ≡ map (dress bytes) (slip_all (for_output p (picks (suc k) ch b)) (b.store p))
    unfolding picks
    turn_stores Nothing e p l =
        ih.stores p l ∙ ap (λ (ms : List Cell). map (dress bytes) (slip_all (for_output p ms) (b.store p))) (sym (ap (λ (x : Arrival). also (named x (b.waiting k)) (picks k ch b)) e))
    turn_stores (For o) e p l =
        elim (cases_eq p o) [
          | inl q ↦ subst (λ (z : ℕ). held (sent k o now).mem (s.lines + z) ≡ map (dress bytes) (slip_all (for_output z (picks (suc k) ch b)) (b.store z))) (sym q) (to_own o e)
          | inr ne ↦ to_other o e p l ne
        ]

    step : After (suc k)
    step =
        record {
          go = going ch s g fits waits_there (suc k) h;
          done = λ i l. elim (cases_eq i k) [
            | inl q ↦ subst (λ (z : ℕ). held (transfer_all (suc k) ch s).mem z ≡ map (dress bytes) (less_named (ch z) (b.waiting z))) (sym q) (ap (λ (z : State). held z.mem k) (next_is ch s g fits waits_there k) ∙ turn_done (ch k) refl)
            | inr ne ↦ ap (λ (z : State). held z.mem i) (next_is ch s g fits waits_there k) ∙ (turn_before (ch k) refl i (omega arith) ∙ ih.done i (omega arith))
          ];
          stores = λ p l. ap (λ (z : State). held z.mem (s.lines + p)) (next_is ch s g fits waits_there k) ∙ turn_stores (ch k) refl p l;
        }

  after : (k : ℕ) → k ≤ s.lines → After k
  unfolding transfer_all picks for_output slip_all
  after zero h =
      record { go = going ch s g fits waits_there 0 h; done = λ i l. absurd (omega arith); stores = sp.stores }
  after (suc k) h = step k h (after k (omega arith))

  home : AtHome b
  home i x h = (pl.waits i x h).0

  -- what is picked in the list of input i is what is named there
  picked_there : (i : ℕ) (d : Cell) → is_in d (b.waiting i) ≡ true → is_in d (picks s.lines ch b) ≡ true → named (ch i) (b.waiting i) ≡ Some d
  picked_there i d l p =
      subst (λ (z : ℕ). named (ch z) (b.waiting z) ≡ Some d) (home i d l) (picks_out ch b home s.lines d p).1

  list_less : (i : ℕ) → i < s.lines → (x : Arrival) → ch i ≡ x → less_named x (b.waiting i) ≡ without_all (picks s.lines ch b) (b.waiting i)
  list_less i h Nothing e =
      sym (without-none (picks s.lines ch b) (b.waiting i) (λ d l.
      elim (cases_Bool (is_in d (picks s.lines ch b))) [
        | inl p ↦ absurd (some-none (sym (picked_there i d l p) ∙ ap (λ (z : Arrival). named z (b.waiting i)) e))
        | inr p ↦ p
      ]))
  list_less i h (For o) e =
      let wi = waits_position o (b.waiting i) (subst (λ (z : Arrival). waits_in z (b.waiting i) ≡ true) e (all_wait_at s.lines i ch b waits h)) in
      chosen i h o e wi (get_or (b.waiting i) (position o (b.waiting i)) nobody) refl
    where
      nobody : Cell
      nobody = record { slot = 0; input = 0; output = 0 }

      chosen : (i : ℕ) → i < s.lines → (o : ℕ) → ch i ≡ For o → position o (b.waiting i) < length (b.waiting i) → (x : Cell) → get_or (b.waiting i) (position o (b.waiting i)) nobody ≡ x → remove (b.waiting i) (position o (b.waiting i)) ≡ without_all (picks s.lines ch b) (b.waiting i)
      chosen i h o e wi x q =
          let nm : named (ch i) (b.waiting i) ≡ Some x = ap (λ (z : Arrival). named z (b.waiting i)) e ∙ (first-position o (b.waiting i) nobody wi ∙ ap (λ (z : Cell). Some z) q) in
          sym (without-one (picks s.lines ch b) (b.waiting i) (position o (b.waiting i)) x (pl.once i) wi
          (get_or_default (b.waiting i) (position o (b.waiting i)) x nobody wi ∙ q) (picks_into ch b s.lines i x h nm)
          (λ d l p. subst (λ (z : Cell). same d z ≡ true) (some_eq (sym (picked_there i d l p) ∙ nm)) (same_refl d)))

  -- memory spells the box with the named cells transferred
  pub transferred_spells : Spells bytes s.lines (transfer_all s.lines ch s).mem (transfer (picks s.lines ch b) b)
  transferred_spells =
      let a = after s.lines (omega arith) in
      record {
        lists = λ i h. a.done i h ∙ ap (λ (xs : List Cell). map (dress bytes) xs) (list_less i h (ch i) refl);
        stores = a.stores;
      }

  -- and the counts are of what that box holds, for a stable choice
  pub transferred_counts : Stable b (picks s.lines ch b) → Counts s.lines s.counts b → Counts s.lines (transfer_all s.lines ch s).counts (transfer (picks s.lines ch b) b)
  transferred_counts st ct o l =
      ap (λ (xs : List ℕ). get_or xs o 0) (transferred_same s.lines ch s) ∙ (ct o l ∙ sym (held-transfer s.lines t o b (picks s.lines ch b) pl st))
