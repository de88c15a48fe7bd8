-- Digits: each is read back, and so are the digits of a word.
use Rattle.std.proofs.Common.{◌≡◌, ℕ, zero, suc, ◌+◌, ◌*◌, ◌/◌, ◌%◌, ◌<◌, ◌≤◌, Bool, true, false, cond, ◌&&◌, eqb, ltb, List, [], ◌∷◌, ◌++◌, length, get_or, set, take, Some, None, Option, inl, inr, sym, refl, ap, ◌∙◌, append_assoc, append-nil, arith}
use Rattle.std.proofs.lemmas.List.{length_push, length-set, get_or-set_other, take_more}
use Rattle.std.proofs.lemmas.Grind.{get_or-set_at}
use Rattle.std.proofs.lemmas.Bool.{cases_Bool, ltb-true, ltb-false, eqb-true, le-ltb}
use Rattle.std.proofs.lemmas.Bool.Decides.{nat_tests}
use Rattle.std.specs.Option.{option_map}
use Rattle.frames.specs.Hex.{blank, digit_value, digit, before, digit_values_of, paired, paired_if, digits, digit_values, line_feed, hex_line}
use Rattle.frames.specs.declared.hex.TheConstants.{VALUES}
use Rattle.frames.specs.Laws.{DigitsRoundTrip, BlanksPass, CapitalsAreRead}

pub digit_value_lem : (v : ℕ) → v < digit_values → digit_value (digit v) ≡ Some v
unfolding digit_value digit
digit_value_lem v h = grind (arith, nat_tests)

pub digit_no_blank : (v : ℕ) → blank (digit v) ≡ false
unfolding blank digit
digit_no_blank v = grind (arith, nat_tests)

pub digit_no_line_feed : (v : ℕ) → eqb (digit v) line_feed ≡ false
unfolding digit
digit_no_line_feed v = grind (arith, nat_tests)

-- what the table says of a character
abbrev pub tabled : ℕ → Option ℕ
tabled c = cond (ltb (get_or VALUES c 0) digit_values) (Some (get_or VALUES c 0)) None

same_value : Option ℕ → Option ℕ → Bool
same_value None None = true
same_value None (Some w) = false
same_value (Some v) None = false
same_value (Some v) (Some w) = eqb v w

same_value-eq : (a b : Option ℕ) → same_value a b ≡ true → a ≡ b
unfolding same_value
same_value-eq None None e = refl
same_value-eq None (Some w) e = absurd (grind arith)
same_value-eq (Some v) None e = absurd (grind arith)
same_value-eq (Some v) (Some w) e = ap Some (eqb-true v w e)

-- the first n characters have the values that the table says
all_tabled : ℕ → Bool
all_tabled zero = true
all_tabled (suc n) = same_value (digit_value n) (tabled n) && all_tabled n

the_table : all_tabled 256 ≡ true
unfolding digit_value all_tabled same_value
the_table = refl

-- a test that is passed by all numbers below n is passed by each
both : (a b : Bool) → (a && b) ≡ true → (a ≡ true) × (b ≡ true)
both true true e = (refl, refl)
both true false e = absurd (grind arith)
both false b e = absurd (grind arith)

one_tabled : (n c : ℕ) → c < n → all_tabled n ≡ true → digit_value c ≡ tabled c
unfolding all_tabled
one_tabled zero c h e = absurd (omega arith)
one_tabled (suc n) c h e = elim (cases_Bool (eqb c n)) [
  | inl same ↦ rw (eqb-true c n same) (same_value-eq (digit_value n) (tabled n) (both _ _ e).0)
  | inr other ↦ one_tabled n c (grind arith) (both _ _ e).1
]

pub table_value : (c : ℕ) → c < 256 → digit_value c ≡ tabled c
table_value c h = one_tabled 256 c h the_table

pub table_none : (c : ℕ) → c < 256 → digit_values ≤ get_or VALUES c 0 → None ≡ digit_value c
table_none c h l =
    sym (table_value c h ∙ ap (λ (b : Bool). cond b (Some (get_or VALUES c 0)) None) (le-ltb (get_or VALUES c 0) digit_values l))

-- the values of a line's digits, by its first character
pub values-blank :
    (c : ℕ) (cs : List ℕ) → blank c ≡ true → digit_values_of (c ∷ cs) ≡ digit_values_of cs
unfolding digit_values_of
values-blank c cs b = ap (λ z. cond z (digit_values_of cs) (before (digit_value c) (digit_values_of cs))) b

pub values-more :
    (c : ℕ) (cs : List ℕ) (d : Option ℕ) →
    blank c ≡ false → digit_value c ≡ d → digit_values_of (c ∷ cs) ≡ before d (digit_values_of cs)
unfolding digit_values_of
values-more c cs d b e =
    ap (λ z. cond z (digit_values_of cs) (before (digit_value c) (digit_values_of cs))) b
    ∙ ap (λ z. before z (digit_values_of cs)) e

-- two digits are a byte
pub pair :
    (high low : ℕ) (vs : Option (List ℕ)) →
    paired_if (before (Some high) (before (Some low) vs))
    ≡ option_map (λ rest. (high * digit_values + low) ∷ rest) (paired_if vs)
unfolding paired
pair high low None = refl
pair high low (Some vs) = refl

pub digits_round_trip : DigitsRoundTrip
unfolding digits digit_values_of paired
digits_round_trip [] good = refl
digits_round_trip (b ∷ bs) good =
    let high : ℕ = b / digit_values in
    let low : ℕ = b % digit_values in
    let high-less : high < digit_values = omega (arith, good.0) in
    let low-less : low < digit_values = omega arith in
    let same : high * digit_values + low ≡ b = omega arith in
    let first = values-more (digit high) (digit low ∷ digits bs) (Some high) (digit_no_blank high) (digit_value_lem high high-less) in
    let second = values-more (digit low) (digits bs) (Some low) (digit_no_blank low) (digit_value_lem low low-less) in
    ap paired_if (first ∙ ap (λ z. before (Some high) z) second)
    ∙ pair high low (digit_values_of (digits bs))
    ∙ ap (λ z. option_map (λ rest. (high * digit_values + low) ∷ rest) z) (digits_round_trip bs good.1)
    ∙ ap (λ z. Some (z ∷ bs)) same

-- what follows some characters may be exchanged for what has the same digits
same-behind :
    (front xs ys : List ℕ) → digit_values_of xs ≡ digit_values_of ys → digit_values_of (front ++ xs) ≡ digit_values_of (front ++ ys)
unfolding digit_values_of
same-behind [] xs ys e = e
same-behind (c ∷ front) xs ys e =
    ap (λ z. cond (blank c) z (before (digit_value c) z)) (same-behind front xs ys e)

pub blanks_pass : BlanksPass
blanks_pass front back c b = ap paired_if (same-behind front (c ∷ back) back (values-blank c back b))

capital_no_blank : (c : ℕ) → 65 ≤ c → blank c ≡ false
unfolding blank
capital_no_blank c low = grind (arith, nat_tests)

capital_value : (c : ℕ) → 65 ≤ c → c ≤ 70 → digit_value c ≡ digit_value (c + 32)
unfolding digit_value
capital_value c low high = grind (arith, nat_tests)

pub capitals_are_read : CapitalsAreRead
capitals_are_read front back c low high =
    let small : ℕ = c + 32 in
    let capital-more = values-more c back (digit_value small) (capital_no_blank c low) (capital_value c low high) in
    let small-more = values-more small back (digit_value small) (capital_no_blank small (omega arith)) refl in
    ap paired_if (same-behind front (c ∷ back) (small ∷ back) (capital-more ∙ sym small-more))

pub length_digits : (w : List ℕ) → length (digits w) ≡ 2 * length w
unfolding digits
length_digits [] = refl
length_digits (b ∷ bs) = let ih = length_digits bs in omega arith

pub length-hex_line : (w : List ℕ) → length (hex_line w) ≡ 2 * length w + 1
length-hex_line w = length_push (digits w) line_feed ∙ ap (λ n. n + 1) (length_digits w)

digits_append : (v w : List ℕ) → digits (v ++ w) ≡ digits v ++ digits w
unfolding digits
digits_append [] w = refl
digits_append (b ∷ bs) w = ap (λ z. digit (b / digit_values) ∷ digit (b % digit_values) ∷ z) (digits_append bs w)

digits-one : (b : ℕ) → digits (b ∷ []) ≡ digit (b / digit_values) ∷ digit (b % digit_values) ∷ []
unfolding digits
digits-one b = refl

-- The writing of a line behind what stood before it: the digits of the first i bytes are written.
abbrev pub Written : List ℕ → List ℕ → ℕ → List ℕ → Type 0
Written before word i after = after ≡ before ++ digits (take i word)

pub written_none : (before word : List ℕ) → Written before word 0 before
unfolding digits
written_none before word = sym (append-nil before)

pub written_more :
    (before word was between after : List ℕ) (i high low : ℕ) →
    i < length word →
    Written before word i was →
    high ≡ digit (get_or word i 0 / digit_values) →
    between ≡ was ++ high ∷ [] →
    low ≡ digit (get_or word i 0 % digit_values) → after ≡ between ++ low ∷ [] → Written before word (i + 1) after
written_more before word was between after i high low h w eh e el f =
    let b : ℕ = get_or word i 0 in
    f ∙ ap (λ z. z ++ low ∷ []) e ∙ append_assoc was (high ∷ []) (low ∷ [])
    ∙ ap (λ z. z ++ high ∷ low ∷ []) w
    ∙ append_assoc before (digits (take i word)) (high ∷ low ∷ [])
    ∙ ap (λ z. before ++ (digits (take i word) ++ z ∷ low ∷ [])) eh
    ∙ ap (λ z. before ++ (digits (take i word) ++ digit (b / digit_values) ∷ z ∷ [])) el
    ∙ ap (λ z. before ++ (digits (take i word) ++ z)) (sym (digits-one b))
    ∙ ap (λ z. before ++ z) (sym (digits_append (take i word) (b ∷ [])))
    ∙ ap (λ z. before ++ digits z) (sym (take_more word i 0 h))

-- a line while it is written: the digits of the first i bytes stand in a part, two by two
abbrev pub WrittenIn : List ℕ → ℕ → List ℕ → Type 0
WrittenIn word i part =
    (j : ℕ) → j < i → (get_or part (2 * j) 0 ≡ digit (get_or word j 0 / digit_values)) × (get_or part (2 * j + 1) 0 ≡ digit (get_or word j 0 % digit_values))

pub written_in_more :
    (word part : List ℕ) (i high low : ℕ) →
    2 * i + 1 < length part → WrittenIn word i part →
    high ≡ digit (get_or word i 0 / digit_values) → low ≡ digit (get_or word i 0 % digit_values) →
    WrittenIn word (i + 1) (set (set part (2 * i) high) (2 * i + 1) low)
written_in_more word part i high low h w eh el j l = elim (cases_Bool (ltb j i)) [
  | inl e ↦
      let less = ltb-true j i e in
      let one = get_or-set_other (set part (2 * i) high) (2 * i + 1) (2 * j) low 0 (omega arith) in
      let two = get_or-set_other part (2 * i) (2 * j) high 0 (omega arith) in
      let three = get_or-set_other (set part (2 * i) high) (2 * i + 1) (2 * j + 1) low 0 (omega arith) in
      let four = get_or-set_other part (2 * i) (2 * j + 1) high 0 (omega arith) in
      (one ∙ two ∙ (w j less).0, three ∙ four ∙ (w j less).1)
  | inr e ↦
      let same : j ≡ i = omega (arith, ltb-false j i e) in
      let size = length-set part (2 * i) high in
      let one = get_or-set_other (set part (2 * i) high) (2 * i + 1) (2 * j) low 0 (omega arith) in
      let two = get_or-set_at part (2 * i) (2 * j) high 0 (omega arith) (omega arith) in
      let three = get_or-set_at (set part (2 * i) high) (2 * i + 1) (2 * j + 1) low 0 (omega arith) (omega arith) in
      (one ∙ two ∙ eh ∙ ap (λ z. digit (get_or word z 0 / digit_values)) (sym same), three ∙ el ∙ ap (λ z. digit (get_or word z 0 % digit_values)) (sym same))
]

-- a part with all digits, and a line feed behind them, is the line
pub written_all :
    (word part : List ℕ) → length part ≡ 2 * length word + 1 → WrittenIn word (length word) part →
    set part (2 * length word) line_feed ≡ hex_line word
unfolding digits
written_all [] [] size w = absurd (omega arith)
written_all [] (x ∷ []) size w = refl
written_all [] (x ∷ y ∷ part) size w = absurd (omega arith)
written_all (b ∷ bs) [] size w = absurd (omega arith)
written_all (b ∷ bs) (x ∷ []) size w = absurd (omega arith)
written_all (b ∷ bs) (x ∷ y ∷ part) size w =
    let first = w 0 (omega arith) in
    let place : 2 * suc (length bs) ≡ suc (suc (2 * length bs)) = omega arith in
    let later : WrittenIn bs (length bs) part = λ j l.
    let at : 2 * suc j ≡ suc (suc (2 * j)) = omega arith in
    let next : 2 * suc j + 1 ≡ suc (suc (2 * j + 1)) = omega arith in
    let more = w (suc j) (omega arith) in
    (ap (λ z. get_or (x ∷ y ∷ part) z 0) (sym at) ∙ more.0, ap (λ z. get_or (x ∷ y ∷ part) z 0) (sym next) ∙ more.1) in
    let others = written_all bs part (omega arith) later in
    ap (λ z. set (x ∷ y ∷ part) z line_feed) place
    ∙ (λ i. first.0 i ∷ (first.1 i ∷ others i))
