-- The status after words and their answers: laws of one word, and of words behind others.
use Rattle.std.proofs.Common.{◌≡◌, ℕ, List, [], ◌∷◌, ◌++◌, sym, refl, ap, ◌∙◌, append_assoc, append-nil}
use Rattle.std.specs.List.{flat_map}
use Rattle.std.proofs.lemmas.Grind.{flat_map-append}
use Rattle.switch.specs.Respond.{Status, respond}
use Rattle.serve.specs.Served.{after, given, answers_to}

-- words behind others begin at the status after those
pub after-append : (st : Status) (ws vs : List (List ℕ)) → after st (ws ++ vs) ≡ after (after st ws) vs
unfolding after
after-append st [] vs = refl
after-append st (w ∷ ws) vs = after-append (respond st w).0 ws vs

pub answers-append :
    (st : Status) (ws vs : List (List ℕ)) → answers_to st (ws ++ vs) ≡ answers_to st ws ++ answers_to (after st ws) vs
unfolding after answers_to
answers-append st [] vs = refl
answers-append st (w ∷ ws) vs =
    ap (λ z. given (respond st w).1 ++ z) (answers-append (respond st w).0 ws vs)
    ∙ sym (append_assoc (given (respond st w).1) (answers_to (respond st w).0 ws) (answers_to (after (respond st w).0 ws) vs))

pub after_none : (st : Status) → after st [] ≡ st
unfolding after
after_none st = refl

pub after_one : (st : Status) (w : List ℕ) → after st (w ∷ []) ≡ (respond st w).0
unfolding after
after_one st w = refl

pub answers_none : (st : Status) → answers_to st [] ≡ []
unfolding answers_to
answers_none st = refl

pub answers_one : (st : Status) (w : List ℕ) → answers_to st (w ∷ []) ≡ given (respond st w).1
unfolding answers_to
answers_one st w = append-nil (given (respond st w).1)

-- what is written behind what was written
pub written-append :
    (spell : List ℕ → List ℕ) (st : Status) (ws vs : List (List ℕ)) (out between written : List ℕ) →
    between ≡ out ++ flat_map spell (answers_to st ws) →
    written ≡ between ++ flat_map spell (answers_to (after st ws) vs) →
    written ≡ out ++ flat_map spell (answers_to st (ws ++ vs))
written-append spell st ws vs out between written e f =
    f ∙ ap (λ z. z ++ flat_map spell (answers_to (after st ws) vs)) e
    ∙ append_assoc out (flat_map spell (answers_to st ws)) (flat_map spell (answers_to (after st ws) vs))
    ∙ ap (λ z. out ++ z)
    (sym (flat_map-append spell (answers_to st ws) (answers_to (after st ws) vs)) ∙ ap (flat_map spell) (sym (answers-append st ws vs)))
