-- Splitting a stream: enough turns, the first word, bytes that come by pieces, and words read back.
use Rattle.std.proofs.Common.{◌≡◌, ℕ, zero, suc, ◌<◌, ◌≤◌, List, [], ◌∷◌, ◌++◌, map, length, Some, None, sym, refl, ap, ◌∙◌, subst, append_assoc, arith}
use Rattle.std.specs.List.{flat_map, AllByRecursion}
use Rattle.frames.specs.Streams.{Taken, Split, split_after, split_most, split}
use Rattle.frames.specs.Laws.{SplitsInTurn, SplitsByPieces, then_split}

-- A word takes a byte at least.
abbrev pub Shrinks : (List ℕ → Taken) → Type 0
Shrinks next = (bytes : List ℕ) (p : List ℕ × List ℕ) → next bytes ≡ Some p → length p.1 < length bytes

-- What was taken stays so where more bytes come.
abbrev pub Stays : (List ℕ → Taken) → Type 0
Stays next =
    (bytes more : List ℕ) (p : List ℕ × List ℕ) → next bytes ≡ Some p → next (bytes ++ more) ≡ Some (p.0, p.1 ++ more)

-- what two ways to split the bytes behind the first word share
after_same :
    (bytes : List ℕ) (f g : List ℕ → Split) (t : Taken) →
    ((p : List ℕ × List ℕ) → t ≡ Some p → f p.1 ≡ g p.1) → split_after f bytes t ≡ split_after g bytes t
after_same bytes f g None h = refl
after_same bytes f g (Some p) h = ap (λ (s : Split). (p.0 ∷ s.0, s.1)) (h p refl)

module _ (next : List ℕ → Taken) (shrinks : Shrinks next) where
  no-turn :
      (f : List ℕ → Split) (bytes : List ℕ) (t : Taken) →
      length bytes ≤ 0 → next bytes ≡ t → ([], bytes) ≡ split_after f bytes t
  no-turn f bytes None h e = refl
  no-turn f bytes (Some p) h e = let less = shrinks bytes p e in absurd (omega arith)

  -- as many turns as there are bytes are enough
  enough :
      (n m : ℕ) (bytes : List ℕ) →
      length bytes ≤ n → length bytes ≤ m → split_most next n bytes ≡ split_most next m bytes
  unfolding split_most
  enough zero zero bytes h k = refl
  enough zero (suc m) bytes h k = no-turn (split_most next m) bytes (next bytes) h refl
  enough (suc n) zero bytes h k = sym (no-turn (split_most next n) bytes (next bytes) k refl)
  enough (suc n) (suc m) bytes h k =
      after_same bytes (split_most next n) (split_most next m) (next bytes)
      (λ p e. let less = shrinks bytes p e in enough n m p.1 (omega arith) (omega arith))

  pub splits_in_turn : SplitsInTurn next
  unfolding split_most
  splits_in_turn bytes =
      enough (length bytes) (suc (length bytes)) bytes (omega arith) (omega arith)
      ∙ after_same bytes (split_most next (length bytes)) (split next) (next bytes)
      (λ p e. let less = shrinks bytes p e in enough (length bytes) (length p.1) p.1 (omega arith) (omega arith))

  -- the split where nothing, or a word, can be taken
  pub split-none : (bytes : List ℕ) → next bytes ≡ None → split next bytes ≡ ([], bytes)
  split-none bytes e = splits_in_turn bytes ∙ ap (λ t. split_after (split next) bytes t) e

  pub split-some :
      (bytes w rest : List ℕ) →
      next bytes ≡ Some (w, rest) → split next bytes ≡ (w ∷ (split next rest).0, (split next rest).1)
  split-some bytes w rest e = splits_in_turn bytes ∙ ap (λ t. split_after (split next) bytes t) e

  module _ (stays : Stays next) where
    pieces :
        (n : ℕ) (bytes more : List ℕ) (t : Taken) →
        length bytes ≤ n → next bytes ≡ t → split next (bytes ++ more) ≡ then_split (split next bytes) (split next ((split next bytes).1 ++ more))
    pieces n bytes more None h e =
        sym (ap (λ (s : Split). then_split s (split next (s.1 ++ more))) (split-none bytes e))
    pieces zero bytes more (Some p) h e = let less = shrinks bytes p e in absurd (omega arith)
    pieces (suc n) bytes more (Some p) h e =
        let less = shrinks bytes p e in
        let ih = pieces n p.1 more (next p.1) (omega arith) refl in
        split-some (bytes ++ more) p.0 (p.1 ++ more) (stays bytes more p e)
        ∙ ap (λ (s : Split). (p.0 ∷ s.0, s.1)) ih
        ∙ sym (ap (λ (s : Split). then_split s (split next (s.1 ++ more))) (split-some bytes p.0 p.1 e))

    pub splits_by_pieces : SplitsByPieces next
    splits_by_pieces bytes more = pieces (length bytes) bytes more (next bytes) (omega arith) refl

  -- words are read back from what spells them, where each is
  module _
      (spell value : List ℕ → List ℕ) (Good : List ℕ → Type 0)
      (one : (w rest : List ℕ) → Good w → next (spell w ++ rest) ≡ Some (value w, rest))
      (tail : List ℕ)
      (ends : next tail ≡ None) where
    pub round_trip : (ws : List (List ℕ)) → AllByRecursion Good ws → split next (flat_map spell ws ++ tail) ≡ (map value ws, tail)
    round_trip [] good = split-none tail ends
    round_trip (w ∷ ws) good =
        let ih = round_trip ws good.1 in
        rw append_assoc
        (split-some (spell w ++ (flat_map spell ws ++ tail)) (value w) (flat_map spell ws ++ tail) (one w (flat_map spell ws ++ tail) good.0)
        ∙ ap (λ (s : Split). (value w ∷ s.0, s.1)) ih)

  -- the bytes are what spells their words and what is left, where that holds of the first word
  module _
      (spell : List ℕ → List ℕ)
      (Good : List ℕ → Type 0)
      (first : (bytes : List ℕ) (p : List ℕ × List ℕ) → Good bytes → next bytes ≡ Some p → (bytes ≡ spell p.0 ++ p.1) × Good p.1) where
    rejoin :
        (n : ℕ) (bytes : List ℕ) (t : Taken) →
        length bytes ≤ n →
        Good bytes →
        next bytes ≡ t → (bytes ≡ flat_map spell (split next bytes).0 ++ (split next bytes).1) × (next (split next bytes).1 ≡ None)
    rejoin n bytes None h good e =
        subst (λ (s : Split). (bytes ≡ flat_map spell s.0 ++ s.1) × (next s.1 ≡ None)) (sym (split-none bytes e))
        (refl, e)
    rejoin zero bytes (Some p) h good e = let less = shrinks bytes p e in absurd (omega arith)
    rejoin (suc n) bytes (Some p) h good e =
        let less = shrinks bytes p e in
        let parts = first bytes p good e in
        let ih = rejoin n p.1 (next p.1) (omega arith) parts.1 refl in
        subst (λ (s : Split). (bytes ≡ flat_map spell s.0 ++ s.1) × (next s.1 ≡ None))
        (sym (split-some bytes p.0 p.1 e)) (
          parts.0 ∙ ap (λ z. spell p.0 ++ z) ih.0
              ∙ sym (append_assoc (spell p.0) (flat_map spell (split next p.1).0) (split next p.1).1),
          ih.1,
        )

    pub rejoins :
        (bytes : List ℕ) →
        Good bytes → (bytes ≡ flat_map spell (split next bytes).0 ++ (split next bytes).1) × (next (split next bytes).1 ≡ None)
    rejoins bytes good = rejoin (length bytes) bytes (next bytes) (omega arith) good refl
