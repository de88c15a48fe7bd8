-- Departures against the model: memory that spells a box whose stores rise spells, when the first of each store has left, the box from which the earliest have departed.
use Rattle.std.proofs.Common.{◌≡◌, ℕ, zero, suc, ◌+◌, ◌-◌, ◌<◌, ◌≤◌, Bool, true, cond, eqb, List, [], ◌∷◌, ◌++◌, map, length, get_or, Some, None, Option, sym, refl, ap, ◌∙◌, subst, inl, inr, arith}
use Rattle.std.specs.List.{remove as removed}
use Rattle.std.proofs.lemmas.List.{get_or-set_same, get_or-set_other}
use Rattle.std.proofs.lemmas.Bool.{cases_eq}
use Rattle.std.proofs.lemmas.Bool.Decides.{nat_tests}
use Rattle.crossbox.specs.declared.Cell.{Cell}
use Rattle.crossbox.specs.Ideal.{first, rest}
use Rattle.crossbox.specs.Box.{Box, held_for, depart}
use Rattle.crossbox.specs.Shape.{Rising}
use Rattle.crossbox.proofs.Stores.{earliest-first, depart_drops}
use Rattle.crossbox.proofs.Held.{store_held}
use Rattle.places.specs.Memory.{Held, held, held_at, row_length, place_at}
use Rattle.places.proofs.Remove.{remove-held, remove-held_other}
use Rattle.words.specs.Answer.{Departure, leaving}
use Rattle.steps.specs.State.{State, Good, Counted, count_of}
use Rattle.steps.specs.Spells.{dress, Spells, Counts}
use Rattle.steps.specs.Departures.{without_first, depart_one, depart_all, departure_of, departing_bytes, dressed, departed_bytes}
use Rattle.steps.proofs.Lists.{dressed-length, held_at_lem}
use Rattle.steps.proofs.Departures.{departs-first, departure-first, departed-lines, departed-slots, departed_good}

-- a box that is spelled has no cell in a store that is not counted
pub spelled_counted : (bytes : Cell → List ℕ) (s : State) (b : Box) → Good s → Spells bytes s.lines s.mem b → Counts s.lines s.counts b → Counted s
spelled_counted bytes s b g sp ct o h =
    omega (arith, dressed-length bytes s.mem (s.lines + o) (b.store o) g.sound (omega (arith, g.rows, g.few)) (sp.stores o h), store_held s.lines o b, ct o h)

-- the first of the store of output o leaves
module _ (bytes : Cell → List ℕ) (s : State) (o : ℕ) (g : Good s) (h : o < s.lines) where
  in_rows : s.lines + o < s.mem.count
  in_rows = omega (arith, g.rows, g.few)

  empty_store : held s.mem (s.lines + o) ≡ [] → eqb (row_length s.mem (s.lines + o)) 0 ≡ true
  empty_store e =
      let z : row_length s.mem (s.lines + o) ≡ 0 = dressed-length bytes s.mem (s.lines + o) [] g.sound in_rows e in
      grind (arith, nat_tests)

  some_store : (c : Cell) (l : List Cell) → held s.mem (s.lines + o) ≡ map (dress bytes) (c ∷ l) → 0 < row_length s.mem (s.lines + o)
  some_store c l e = omega (arith, dressed-length bytes s.mem (s.lines + o) (c ∷ l) g.sound in_rows e)

  one-rest : (l : List Cell) → held s.mem (s.lines + o) ≡ map (dress bytes) l → held (depart_one o s).mem (s.lines + o) ≡ map (dress bytes) (rest l)
  one-rest [] e = ap (λ (t : Bool). held (cond t s (without_first o s)).mem (s.lines + o)) (empty_store e) ∙ e
  one-rest (c ∷ l) e =
      let some = some_store c l e in
      ap (λ (z : State). held z.mem (s.lines + o)) (departs-first s o (λ z. omega arith))
      ∙ (remove-held s.mem (s.lines + o) 0 g.sound in_rows some ∙ ap (λ (xs : List Held). removed xs 0) e)

  one_others : (l : List Cell) → held s.mem (s.lines + o) ≡ map (dress bytes) l → (r : ℕ) → r < 64 → (r ≡ s.lines + o → ⊥) → held (depart_one o s).mem r ≡ held s.mem r
  one_others [] e r i ne = ap (λ (t : Bool). held (cond t s (without_first o s)).mem r) (empty_store e)
  one_others (c ∷ l) e r i ne =
      let some = some_store c l e in
      ap (λ (z : State). held z.mem r) (departs-first s o (λ z. omega arith))
      ∙ remove-held_other s.mem (s.lines + o) 0 g.sound in_rows some r (omega (arith, g.rows)) ne

  one-departure : (l : List Cell) → held s.mem (s.lines + o) ≡ map (dress bytes) l → departure_of o s ≡ dressed bytes (first l)
  one-departure [] e =
      ap (λ (t : Bool). cond t None (Some ((held_at s.mem (place_at (s.lines + o) 0 s.mem)).cell, (held_at s.mem (place_at (s.lines + o) 0 s.mem)).body))) (empty_store e)
  one-departure (c ∷ l) e =
      let some = some_store c l e in
      let there : dress bytes c ≡ held_at s.mem (place_at (s.lines + o) 0 s.mem) =
      sym (ap (λ (xs : List Held). get_or xs 0 (dress bytes c)) e) ∙ held_at_lem s.mem (s.lines + o) 0 (dress bytes c) g.sound in_rows some in
      departure-first s o (λ z. omega arith) c (bytes c) (ap (λ (x : Held). x.cell) there) (ap (λ (x : Held). x.body) there)

  -- one less is counted, if one leaves
  one-count : (l : List Cell) → held s.mem (s.lines + o) ≡ map (dress bytes) l → length l ≤ count_of s o → count_of (depart_one o s) o + (length l - length (rest l)) ≡ count_of s o
  one-count [] e k = omega (arith, ap (λ (t : Bool). count_of (cond t s (without_first o s)) o) (empty_store e))
  one-count (c ∷ l) e k =
      let some = some_store c l e in
      let i : o < length s.counts = omega (arith, g.outputs, g.few) in
      omega (arith, ap (λ (z : State). count_of z o) (departs-first s o (λ z. omega arith)), get_or-set_same s.counts o (count_of s o - 1) 0 i)

  other_count : (l : List Cell) → held s.mem (s.lines + o) ≡ map (dress bytes) l → (p : ℕ) → (p ≡ o → ⊥) → count_of (depart_one o s) p ≡ count_of s p
  other_count [] e p ne = ap (λ (t : Bool). count_of (cond t s (without_first o s)) p) (empty_store e)
  other_count (c ∷ l) e p ne =
      let some = some_store c l e in
      ap (λ (z : State). count_of z p) (departs-first s o (λ z. omega arith)) ∙ get_or-set_other s.counts o p (count_of s o - 1) 0 ne

module _ (bytes : Cell → List ℕ) (s : State) (b : Box) (g : Good s) (sp : Spells bytes s.lines s.mem b) (ct : Counts s.lines s.counts b) (up : Rising b) where
  -- what is known when the first k outputs have had their turn
  record After (k : ℕ) : Type 0 where
    lists : (i : ℕ) → i < s.lines → held (depart_all k s).mem i ≡ map (dress bytes) (b.waiting i)
    gone : (o : ℕ) → o < k → held (depart_all k s).mem (s.lines + o) ≡ map (dress bytes) (rest (b.store o))
    stays : (o : ℕ) → k ≤ o → o < s.lines → held (depart_all k s).mem (s.lines + o) ≡ map (dress bytes) (b.store o)
    fewer : (o : ℕ) → o < k → count_of (depart_all k s) o + (length (b.store o) - length (rest (b.store o))) ≡ held_for s.lines o b
    as_many : (o : ℕ) → k ≤ o → o < s.lines → count_of (depart_all k s) o ≡ held_for s.lines o b
    written : departing_bytes k s ≡ departed_bytes bytes k b

  -- a state with the lines and slots that there are
  abbrev plain : State → State
  plain z = record { mem = z.mem; counts = z.counts; lines = s.lines; slots = s.slots; firsts = z.firsts }

  plain_is : (k : ℕ) → depart_all k s ≡ plain (depart_all k s)
  plain_is k =
      ap (λ (n : ℕ). record { mem = (depart_all k s).mem; counts = (depart_all k s).counts; lines = n; slots = (depart_all k s).slots; firsts = (depart_all k s).firsts }) (departed-lines k s)
      ∙ ap (λ (t : ℕ). record { mem = (depart_all k s).mem; counts = (depart_all k s).counts; lines = s.lines; slots = t; firsts = (depart_all k s).firsts }) (departed-slots k s)

  module _ (k : ℕ) (h : k < s.lines) (ih : After k) where
    p_good : Good (plain (depart_all k s))
    p_good = subst Good (plain_is k) (departed_good k s g (spelled_counted bytes s b g sp ct) (omega arith))

    p_store : held (depart_all k s).mem (s.lines + k) ≡ map (dress bytes) (b.store k)
    p_store = ih.stays k (omega arith) h

    step_is : depart_all (suc k) s ≡ depart_one k (plain (depart_all k s))
    unfolding depart_all
    step_is = ap (λ (z : State). depart_one k z) (plain_is k)

    others : (r : ℕ) → r < 64 → (r ≡ s.lines + k → ⊥) → held (depart_all (suc k) s).mem r ≡ held (depart_all k s).mem r
    others r l ne = ap (λ (z : State). held z.mem r) step_is ∙ one_others bytes (plain (depart_all k s)) k p_good h (b.store k) p_store r l ne

    here : held (depart_all (suc k) s).mem (s.lines + k) ≡ map (dress bytes) (rest (b.store k))
    here = ap (λ (z : State). held z.mem (s.lines + k)) step_is ∙ one-rest bytes (plain (depart_all k s)) k p_good h (b.store k) p_store

    count_here : count_of (depart_all (suc k) s) k + (length (b.store k) - length (rest (b.store k))) ≡ held_for s.lines k b
    count_here =
        let e = ap (λ (z : State). count_of z k) step_is in
        let m = ih.as_many k (omega arith) h in
        omega (arith, one-count bytes (plain (depart_all k s)) k p_good h (b.store k) p_store (omega (arith, store_held s.lines k b)))

    count_other : (o : ℕ) → (o ≡ k → ⊥) → count_of (depart_all (suc k) s) o ≡ count_of (depart_all k s) o
    count_other o ne = ap (λ (z : State). count_of z o) step_is ∙ other_count bytes (plain (depart_all k s)) k p_good h (b.store k) p_store o ne

    step_bytes : departing_bytes (suc k) s ≡ departed_bytes bytes (suc k) b
    unfolding departing_bytes departed_bytes
    step_bytes =
        ap (λ (bs : List ℕ). bs ++ leaving (departure_of k (depart_all k s))) ih.written
        ∙ ap (λ (d : Departure). departed_bytes bytes k b ++ leaving d)
        (ap (λ (z : State). departure_of k z) (plain_is k) ∙ (one-departure bytes (plain (depart_all k s)) k p_good h (b.store k) p_store
        ∙ ap (λ (x : Option Cell). dressed bytes x) (sym (earliest-first (b.store k) (up k)))))

    step : After (suc k)
    step =
        record {
          lists = λ i l. others i (omega (arith, g.few)) (λ e. omega arith) ∙ ih.lists i l;
          gone = λ o l. elim (cases_eq o k) [
            | inl e ↦ subst (λ (z : ℕ). held (depart_all (suc k) s).mem (s.lines + z) ≡ map (dress bytes) (rest (b.store z))) (sym e) here
            | inr ne ↦ others (s.lines + o) (omega (arith, g.few)) (λ e. ne (omega arith)) ∙ ih.gone o (omega arith)
          ];
          stays = λ o l m. others (s.lines + o) (omega (arith, g.few)) (λ e. omega arith) ∙ ih.stays o (omega arith) m;
          fewer = λ o l. elim (cases_eq o k) [
            | inl e ↦ subst (λ (z : ℕ). count_of (depart_all (suc k) s) z + (length (b.store z) - length (rest (b.store z))) ≡ held_for s.lines z b) (sym e) count_here
            | inr ne ↦ omega (arith, count_other o ne, ih.fewer o (omega arith))
          ];
          as_many = λ o l m. count_other o (λ e. omega arith) ∙ ih.as_many o (omega arith) m;
          written = step_bytes;
        }

  after : (k : ℕ) → k ≤ s.lines → After k
  unfolding depart_all departing_bytes departed_bytes
  after zero h =
      record {
        lists = sp.lists;
        gone = λ o l. absurd (omega arith);
        stays = λ o l m. sp.stores o m;
        fewer = λ o l. absurd (omega arith);
        as_many = λ o l m. ct o m;
        written = refl;
      }
  after (suc k) h = step k h (after k (omega arith))

  -- memory spells the box from which the earliest cell of each store has departed
  pub departed_spells : Spells bytes s.lines (depart_all s.lines s).mem (depart b)
  departed_spells =
      let a = after s.lines (omega arith) in
      record {
        lists = a.lists;
        stores = λ o l. a.gone o l ∙ ap (λ (xs : List Cell). map (dress bytes) xs) (sym (depart_drops (b.store o) (up o)));
      }

  -- the bytes are of what departs
  pub departed_bytes_lem : departing_bytes s.lines s ≡ departed_bytes bytes s.lines b
  departed_bytes_lem = (after s.lines (omega arith)).written

  held-less : (n o : ℕ) → held_for n o (depart b) + (length (b.store o) - length (rest (b.store o))) ≡ held_for n o b
  unfolding held_for
  held-less zero o = omega (arith, ap length (depart_drops (b.store o) (up o)), rest_short (b.store o))
    where
      rest_short : (l : List Cell) → length (rest l) ≤ length l
      rest_short [] = omega arith
      rest_short (c ∷ l) = omega arith
  held-less (suc n) o = omega (arith, held-less n o)

  -- and the counts are of what that box holds
  pub departed_counts : Counts s.lines (depart_all s.lines s).counts (depart b)
  departed_counts o l = omega (arith, (after s.lines (omega arith)).fewer o l, held-less s.lines o)
