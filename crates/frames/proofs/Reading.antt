-- A line of digits while it is read: what it comes to does not change from one character to the next.
use Rattle.std.proofs.Common.{◌≡◌, ℕ, ◌+◌, ◌*◌, ◌≤◌, true, false, ◌⊎◌, List, [], ◌∷◌, ◌++◌, length, drop, Some, None, Option, sym, refl, ap, ◌∙◌, inl, inr, append_assoc, append-nil}
use Rattle.std.proofs.lemmas.List.{drop_all}
use Rattle.std.specs.Option.{option_map}
use Rattle.frames.specs.declared.hex.Reading.{Reading}
use Rattle.frames.specs.declared.hex.Reading.TheVariants.{Whole, Half, Wrong}
use Rattle.frames.specs.Hex.{blank, digit_value, before, digit_values_of, paired, paired_if, digit_values, unhex}
use Rattle.frames.specs.Reading.{comes_to}
use Rattle.frames.proofs.Digits.{values-blank, values-more, pair}

append_nothing : (t : Option (List ℕ)) → option_map (λ more. [] ++ more) t ≡ t
append_nothing None = refl
append_nothing (Some w) = refl

pub comes_start : (cs : List ℕ) → comes_to Whole [] cs ≡ unhex cs
unfolding comes_to
comes_start cs = append_nothing (unhex cs)

pub comes_whole : (bytes : List ℕ) → comes_to Whole bytes [] ≡ Some bytes
unfolding comes_to digit_values_of paired
comes_whole bytes = ap Some (append-nil bytes)

pub comes_half : (high : ℕ) (bytes : List ℕ) → comes_to (Half high) bytes [] ≡ None
unfolding comes_to digit_values_of paired
comes_half high bytes = refl

pub comes_wrong : (bytes cs : List ℕ) → comes_to Wrong bytes cs ≡ None
unfolding comes_to
comes_wrong bytes cs = refl

pub on-blank :
    (r : Reading) (bytes cs : List ℕ) (c : ℕ) →
    blank c ≡ true → comes_to r bytes cs ≡ comes_to r bytes (c ∷ cs)
unfolding comes_to
on-blank Whole bytes cs c b =
    ap (λ z. option_map (λ more. bytes ++ more) (paired_if z)) (sym (values-blank c cs b))
on-blank (Half high) bytes cs c b =
    ap (λ z. option_map (λ more. bytes ++ more) (paired_if (before (Some high) z))) (sym (values-blank c cs b))
on-blank Wrong bytes cs c b = refl

pub on-high :
    (bytes cs : List ℕ) (c v : ℕ) →
    blank c ≡ false → digit_value c ≡ Some v → comes_to (Half v) bytes cs ≡ comes_to Whole bytes (c ∷ cs)
unfolding comes_to
on-high bytes cs c v b e =
    ap (λ z. option_map (λ more. bytes ++ more) (paired_if z)) (sym (values-more c cs (Some v) b e))

append-byte :
    (bytes : List ℕ) (x : ℕ) (t : Option (List ℕ)) →
    option_map (λ more. (bytes ++ x ∷ []) ++ more) t ≡ option_map (λ more. bytes ++ more) (option_map (λ rest. x ∷ rest) t)
append-byte bytes x None = refl
append-byte bytes x (Some w) = ap Some (append_assoc bytes (x ∷ []) w)

pub on-low :
    (bytes cs : List ℕ) (high c v : ℕ) →
    blank c ≡ false →
    digit_value c ≡ Some v →
    comes_to Whole (bytes ++ (high * digit_values + v) ∷ []) cs ≡ comes_to (Half high) bytes (c ∷ cs)
unfolding comes_to
on-low bytes cs high c v b e =
    append-byte bytes (high * digit_values + v) (unhex cs)
    ∙ ap (option_map (λ more. bytes ++ more)) (sym (pair high v (digit_values_of cs)))
    ∙ ap (λ z. option_map (λ more. bytes ++ more) (paired_if (before (Some high) z))) (sym (values-more c cs (Some v) b e))

pub on-other :
    (r : Reading) (bytes cs : List ℕ) (c : ℕ) →
    blank c ≡ false → digit_value c ≡ None → comes_to Wrong bytes cs ≡ comes_to r bytes (c ∷ cs)
unfolding comes_to
on-other Whole bytes cs c b e =
    ap (λ z. option_map (λ more. bytes ++ more) (paired_if z)) (sym (values-more c cs None b e))
on-other (Half high) bytes cs c b e =
    ap (λ z. option_map (λ more. bytes ++ more) (paired_if (before (Some high) z))) (sym (values-more c cs None b e))
on-other Wrong bytes cs c b e = refl

-- at the end of the line
module _ (bytes line : List ℕ) (n : ℕ) (end : length line ≤ n) where
  at_end : (r : Reading) → comes_to r bytes (drop n line) ≡ unhex line → comes_to r bytes [] ≡ unhex line
  at_end r e = ap (comes_to r bytes) (sym (drop_all n line end)) ∙ e

  pub spells : comes_to Whole bytes (drop n line) ≡ unhex line → unhex line ≡ Some bytes
  spells e = sym (at_end Whole e) ∙ comes_whole bytes

  pub spells-none :
      (r : Reading) →
      ((high : ℕ) × (r ≡ Half high)) ⊎ (r ≡ Wrong) → comes_to r bytes (drop n line) ≡ unhex line → unhex line ≡ None
  spells-none r (inl h) e =
      sym (at_end r e) ∙ ap (λ z. comes_to z bytes []) h.1 ∙ comes_half h.0 bytes
  spells-none r (inr w) e = sym (at_end r e) ∙ ap (λ z. comes_to z bytes []) w ∙ comes_wrong bytes []
