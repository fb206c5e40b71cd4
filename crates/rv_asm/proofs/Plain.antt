-- Words that are printed: their bytes stand inside of words, and end no line.
use Rattle.std.proofs.lemmas.List.{append-nil, length-append}
use Rattle.std.proofs.Common.{◌≡◌, ℕ, ℤ, subst, suc, ◌<◌, ◌≤◌, ◌^◌, Bool, true, List, [], ◌∷◌, ◌++◌, length, refl, sym, ap, ◌∙◌, arith, not, append_assoc}
use Rattle.std.specs.Prelude.{◌==◌, ◌&&◌, decimal, pos, negsuc}
use Rattle.std.specs.List.{list_all}
use Rattle.std.specs.Fmt.{signed_decimal}
use Rattle.std.specs.Char.{digit_value}
use Rattle.std.specs.Str.Parse.{AllDigits}
use Rattle.std.proofs.lemmas.Bool.{and_parts, not-true}
use Rattle.std.proofs.lemmas.Bool.Decides.{nat_tests}
use Rattle.std.proofs.lemmas.Fmt.{decimal_is_IsNumeral, decimal_nonempty}
use Rattle.std.proofs.lemmas.Str.Parse.{digit_from_value}
use Rattle.std.proofs.lemmas.List.Folds.{list_all-append}
use lib.Signed.{mag}
use Rattle.rv_text.specs.Texts.{register, address, two, three}
use Rattle.rv_text.specs.declared.text.Style.TheVariants.{Source}
use Rattle.rv_asm.specs.Words.{is_apart, words_of}
use Rattle.rv_asm.proofs.Wording.{HasNoneApart, words-word}
use Rattle.rv_asm.proofs.Lining.{HasNoEnd}

abbrev pub is_plain : ℕ → Bool
is_plain b = not (is_apart b) && not (b == 10)

-- a word that is printed
pub record IsWord (word : List ℕ) : Type 0 where
  pub plain : list_all is_plain word ≡ true
  pub some : 0 < length word

pub apart_none : (word : List ℕ) → list_all is_plain word ≡ true → HasNoneApart word
apart_none [] e = tt
apart_none (b ∷ word) e =
    let p = and_parts (is_plain b) (list_all is_plain word) e in
    (not-true _ (and_parts (not (is_apart b)) (not (b == 10)) p.0).0, apart_none word p.1)

pub ends_none : (word : List ℕ) → list_all is_plain word ≡ true → HasNoEnd word
ends_none [] e = tt
ends_none (b ∷ word) e =
    let p = and_parts (is_plain b) (list_all is_plain word) e in
    (not-true _ (and_parts (not (is_apart b)) (not (b == 10)) p.0).1, ends_none word p.1)

pub no_end_joined : (xs ys : List ℕ) → HasNoEnd xs → HasNoEnd ys → HasNoEnd (xs ++ ys)
no_end_joined [] ys h k = k
no_end_joined (x ∷ xs) ys h k = (h.0, no_end_joined xs ys h.1 k)

-- ---- digits

digit_plain : (c : ℕ) → digit_value c < 10 → is_plain c ≡ true
digit_plain c h = let r = digit_from_value c h in grind (arith, nat_tests)

pub digits_plain : (ds : List ℕ) → AllDigits 10 ds → list_all is_plain ds ≡ true
digits_plain [] h = refl
digits_plain (d ∷ ds) h = rw (digit_plain d h.0) (digits_plain ds h.1)

pub decimal_word : (n : ℕ) → n < 2 ^ 64 → IsWord (decimal n)
decimal_word n h = record { plain = digits_plain (decimal n) (decimal_is_IsNumeral n h).0.1; some = decimal_nonempty n h }

pub signed_word : (z : ℤ) → mag z < 2 ^ 63 → IsWord (signed_decimal z)
signed_word (pos n) h = decimal_word n (omega (arith, h))
signed_word (negsuc n) h = let w = decimal_word (suc n) (omega (arith, h)) in record { plain = w.plain; some = omega arith }

pub register_word : (n : ℕ) → n ≤ 31 → IsWord (register n)
register_word n h = let w = decimal_word n (omega (arith, h)) in record { plain = w.plain; some = omega arith }

pub joined_word : (xs ys : List ℕ) → IsWord xs → list_all is_plain ys ≡ true → IsWord (xs ++ ys)
joined_word xs ys h k = record { plain = list_all-append is_plain xs ys ∙ rw h.plain k; some = simp length-append (omega (arith, h.some)) }

pub address_word : (rs1 : ℕ) (z : ℤ) → rs1 ≤ 31 → mag z < 2 ^ 63 → IsWord (address rs1 z)
address_word rs1 z h k = joined_word _ _ (joined_word _ _ (joined_word _ _ (signed_word z k) refl) (register_word rs1 h).plain) refl

-- ---- lines of words

abbrev pub HasWords : List ℕ → List (List ℕ) → Type 0
HasWords line words = (words_of line ≡ words) × HasNoEnd line

pub one_word : (m : List ℕ) → IsWord m → HasWords m (m ∷ [])
one_word m h = (subst (λ l. words_of l ≡ m ∷ []) (append-nil m) (words-word m [] (apart_none m h.plain) h.some refl), ends_none m h.plain)

-- a word, a space, and what follows
spaced : (m rest : List ℕ) → IsWord m → words_of (m ++ 32 ∷ rest) ≡ m ∷ words_of rest
spaced m rest h = words-word m (32 ∷ rest) (apart_none m h.plain) h.some refl

-- a word, a comma, a space, and what follows
parted : (m rest : List ℕ) → IsWord m → words_of (m ++ 44 ∷ 32 ∷ rest) ≡ m ∷ (44 ∷ []) ∷ words_of rest
parted m rest h = words-word m (44 ∷ 32 ∷ rest) (apart_none m h.plain) h.some refl

pub spaced_on : (m rest : List ℕ) (words : List (List ℕ)) → IsWord m → HasWords rest words → HasWords (m ++ 32 ∷ rest) (m ∷ words)
spaced_on m rest words h k = (spaced m rest h ∙ ap (λ ws. m ∷ ws) k.0, no_end_joined m (32 ∷ rest) (ends_none m h.plain) (refl, k.1))

pub parted_on : (m rest : List ℕ) (words : List (List ℕ)) → IsWord m → HasWords rest words → HasWords (m ++ 44 ∷ 32 ∷ rest) (m ∷ (44 ∷ []) ∷ words)
parted_on m rest words h k = (parted m rest h ∙ ap (λ ws. m ∷ (44 ∷ []) ∷ ws) k.0, no_end_joined m (44 ∷ 32 ∷ rest) (ends_none m h.plain) (refl, (refl, k.1)))

two_grouped : (m a b : List ℕ) → two Source m a b ≡ m ++ 32 ∷ (a ++ 44 ∷ 32 ∷ b)
two_grouped m a b = simp append_assoc

three_grouped : (m a b c : List ℕ) → three Source m a b c ≡ m ++ 32 ∷ (a ++ 44 ∷ 32 ∷ (b ++ 44 ∷ 32 ∷ c))
three_grouped m a b c = simp append_assoc

pub two_words : (m a b : List ℕ) → IsWord m → IsWord a → IsWord b → HasWords (two Source m a b) (m ∷ a ∷ (44 ∷ []) ∷ b ∷ [])
two_words m a b hm ha hb =
    subst (λ l. HasWords l (m ∷ a ∷ (44 ∷ []) ∷ b ∷ [])) (sym (two_grouped m a b))
    (spaced_on m (a ++ 44 ∷ 32 ∷ b) (a ∷ (44 ∷ []) ∷ b ∷ []) hm (parted_on a b (b ∷ []) ha (one_word b hb)))

pub three_words : (m a b c : List ℕ) → IsWord m → IsWord a → IsWord b → IsWord c → HasWords (three Source m a b c) (m ∷ a ∷ (44 ∷ []) ∷ b ∷ (44 ∷ []) ∷ c ∷ [])
three_words m a b c hm ha hb hc =
    subst (λ l. HasWords l (m ∷ a ∷ (44 ∷ []) ∷ b ∷ (44 ∷ []) ∷ c ∷ [])) (sym (three_grouped m a b c))
    (spaced_on m (a ++ 44 ∷ 32 ∷ (b ++ 44 ∷ 32 ∷ c)) (a ∷ (44 ∷ []) ∷ b ∷ (44 ∷ []) ∷ c ∷ []) hm
    (parted_on a (b ++ 44 ∷ 32 ∷ c) (b ∷ (44 ∷ []) ∷ c ∷ []) ha (parted_on b c (c ∷ []) hb (one_word c hc))))
