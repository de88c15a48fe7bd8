-- Where a cell belongs in a store that rises: sought from the end, it is before the first that is later.
use Rattle.std.proofs.Common.{◌≡◌, ℕ, suc, ◌+◌, ◌-◌, Bool, true, false, cond, List, [], ◌∷◌, ◌++◌, reverse, length, sym, refl, ap, ◌∙◌, inl, inr, arith}
use Rattle.std.specs.List.{prefix_len, suffix_len, insert}
use Rattle.std.proofs.lemmas.List.{reverse-append, length-reverse}
use Rattle.std.proofs.lemmas.List.Sums.{suffix_len-le-length}
use Rattle.std.proofs.lemmas.Bool.{cases_Bool, and_parts}
use Rattle.crossbox.specs.declared.Cell.{Cell}
use Rattle.crossbox.specs.Cells.{earlier}
use Rattle.crossbox.specs.Box.{slip}
use Rattle.crossbox.specs.Shape.{leads, rises}
use Rattle.crossbox.proofs.Stores.{leads_trans}
use Rattle.steps.specs.Transfers.{place_for}

leading_no : (p : Cell → Bool) (l : List Cell) (d : Cell) → p d ≡ false → prefix_len p (l ++ (d ∷ [])) ≡ prefix_len p l
leading_no p [] d h = ap (λ (t : Bool). cond t (1 + 0) 0) h
leading_no p (c ∷ l) d h = ap (λ (k : ℕ). cond (p c) (1 + k) 0) (leading_no p l d h)

leading_all : (p : Cell → Bool) (l : List Cell) (d : Cell) → p d ≡ true → prefix_len p l ≡ length l → prefix_len p (l ++ (d ∷ [])) ≡ suc (length l)
leading_all p [] d h e = ap (λ (t : Bool). cond t (1 + 0) 0) h
leading_all p (c ∷ l) d h e =
    let ih = leading_all p l d h in
    grind (arith, ih)

reverse_cons : (d : Cell) (l : List Cell) → reverse (d ∷ l) ≡ reverse l ++ (d ∷ [])
reverse_cons d l = reverse-append (d ∷ []) l

ending_no : (p : Cell → Bool) (l : List Cell) (d : Cell) → p d ≡ false → suffix_len p (d ∷ l) ≡ suffix_len p l
ending_no p l d h = ap (λ (xs : List Cell). prefix_len p xs) (reverse_cons d l) ∙ leading_no p (reverse l) d h

ending_all : (p : Cell → Bool) (l : List Cell) (d : Cell) → p d ≡ true → suffix_len p l ≡ length l → suffix_len p (d ∷ l) ≡ suc (length l)
ending_all p l d h e =
    ap (λ (xs : List Cell). prefix_len p xs) (reverse_cons d l)
    ∙ (leading_all p (reverse l) d h (e ∙ sym (length-reverse l)) ∙ ap suc (length-reverse l))

leads-ending : (c : Cell) (l : List Cell) → leads c l ≡ true → suffix_len (earlier c) l ≡ length l
unfolding leads
leads-ending c [] h = refl
leads-ending c (d ∷ l) h =
    let p = and_parts (earlier c d) (leads c l) h in
    ending_all (earlier c) l d p.0 (leads-ending c l p.1)

pub place_slip : (c : Cell) (l : List Cell) → rises l ≡ true → insert l (place_for c l) c ≡ slip c l
unfolding place_for slip rises
place_slip c [] h = refl
place_slip c (d ∷ l) h =
    let p = and_parts (leads d l) (rises l) h in
    elim (cases_Bool (earlier c d)) [
      | inl t ↦
          let e = ending_all (earlier c) l d t (leads-ending c l (leads_trans c d l t p.0)) in
          let z : suc (length l) - suffix_len (earlier c) (d ∷ l) ≡ 0 = omega arith in
          ap (λ (k : ℕ). insert (d ∷ l) k c) z ∙ sym (ap (λ (w : Bool). cond w (c ∷ d ∷ l) (d ∷ slip c l)) t)
      | inr t ↦
          let e = ending_no (earlier c) l d t in
          let z : suc (length l) - suffix_len (earlier c) (d ∷ l) ≡ suc (length l - suffix_len (earlier c) l) = omega (arith, suffix_len-le-length (earlier c) l) in
          ap (λ (k : ℕ). insert (d ∷ l) k c) z
          ∙ (ap (λ (xs : List Cell). d ∷ xs) (place_slip c l p.1) ∙ sym (ap (λ (w : Bool). cond w (c ∷ d ∷ l) (d ∷ slip c l)) t))
    ]
