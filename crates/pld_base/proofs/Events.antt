-- Laws of the words that a list of events reads and writes.
use Rattle.std.proofs.Common.{◌≡◌, ℕ, suc, ◌≤◌, length, arith, List, [], ◌∷◌, ◌++◌, Bool, true, false, ◌==◌, if◌then◌else◌, refl, sym, ap, ◌∙◌, eq-eqb}
use Rattle.pld_base.specs.Prefix.{IsPrefixOf}
use Rattle.pld_base.specs.declared.event.Event.{Event}
use Rattle.pld_base.specs.declared.event.Event.TheVariants.{Read, Write}
use Rattle.pld_base.specs.Events.{words_read, words_written}

if_cons-append : (b : Bool) (word : ℕ) (xs ys zs : List ℕ) → zs ≡ xs ++ ys → (if b then word ∷ zs else zs) ≡ (if b then word ∷ xs else xs) ++ ys
if_cons-append true word xs ys zs e = ap (λ l. word ∷ l) e
if_cons-append false word xs ys zs e = e

pub words_read-append : (es fs : List Event) (port : ℕ) → words_read (es ++ fs) port ≡ words_read es port ++ words_read fs port
words_read-append [] fs port = refl
words_read-append (Read p w ∷ es) fs port = if_cons-append (p.0 == port) w _ _ _ (words_read-append es fs port)
words_read-append (Write p w ∷ es) fs port = words_read-append es fs port

pub words_written-append : (es fs : List Event) (port : ℕ) → words_written (es ++ fs) port ≡ words_written es port ++ words_written fs port
words_written-append [] fs port = refl
words_written-append (Read p w ∷ es) fs port = words_written-append es fs port
words_written-append (Write p w ∷ es) fs port = if_cons-append (p.0 == port) w _ _ _ (words_written-append es fs port)

-- a list that begins another reads and writes what begins the other's words
pub words_read_grows : {es fs : List Event} (port : ℕ) → IsPrefixOf es fs → IsPrefixOf (words_read es port) (words_read fs port)
words_read_grows {es} port p =
    record { rest = words_read p.rest port; joined = sym (words_read-append es p.rest port) ∙ ap (λ l. words_read l port) p.joined }

pub words_written_grows : {es fs : List Event} (port : ℕ) → IsPrefixOf es fs → IsPrefixOf (words_written es port) (words_written fs port)
words_written_grows {es} port p =
    record { rest = words_written p.rest port; joined = sym (words_written-append es p.rest port) ∙ ap (λ l. words_written l port) p.joined }

pub read_one : (es : List Event) (p w : ℕ) → words_read (es ++ Read (record { 0 = p }) w ∷ []) p ≡ words_read es p ++ w ∷ []
read_one es p w = words_read-append es (Read (record { 0 = p }) w ∷ []) p ∙ ap (λ t. words_read es p ++ (if t then w ∷ [] else [])) (eq-eqb p p refl)

pub written_one : (es : List Event) (p w : ℕ) → words_written (es ++ Write (record { 0 = p }) w ∷ []) p ≡ words_written es p ++ w ∷ []
written_one es p w = words_written-append es (Write (record { 0 = p }) w ∷ []) p ∙ ap (λ t. words_written es p ++ (if t then w ∷ [] else [])) (eq-eqb p p refl)

if_cons_length : (b : Bool) (word : ℕ) (xs : List ℕ) (n : ℕ) → length xs ≤ n → length (if b then word ∷ xs else xs) ≤ suc n
if_cons_length true word xs n h = omega (arith, h)
if_cons_length false word xs n h = omega (arith, h)

-- no more words than events
pub words_read_length : (es : List Event) (port : ℕ) → length (words_read es port) ≤ length es
words_read_length [] port = omega arith
words_read_length (Read p w ∷ es) port = if_cons_length (p.0 == port) w (words_read es port) (length es) (words_read_length es port)
words_read_length (Write p w ∷ es) port = omega (arith, words_read_length es port)

pub words_written_length : (es : List Event) (port : ℕ) → length (words_written es port) ≤ length es
words_written_length [] port = omega arith
words_written_length (Read p w ∷ es) port = omega (arith, words_written_length es port)
words_written_length (Write p w ∷ es) port = if_cons_length (p.0 == port) w (words_written es port) (length es) (words_written_length es port)
