-- What is reported of the place at which reading stops.
use Rattle.std.proofs.Common.{◌≡◌, ◌≢◌, ℕ, ◌+◌, ◌-◌, ◌<◌, ◌≤◌, List, length, take, drop, min, refl, ap, sym, ◌∙◌, subst, arith, ◌⊎◌, inl, inr}
use Rattle.std.specs.Prelude.{None, Ok, Err}
use Rattle.std.proofs.lemmas.List.{take_rest}
use Rattle.wb_text.specs.declared.token.Token.{Token}
use Rattle.cat_syntax.specs.declared.counting.Context.TheVariants.{Naming}
use Rattle.cat_syntax.specs.declared.fault.CatFault.{CatFault}
use Rattle.cat_syntax.specs.declared.fault.CatFault.TheVariants.{Syntax, Unsupported, TooDeep, NoMemory}
use Rattle.cat_syntax.specs.declared.syntax_fault.SyntaxFault.{SyntaxFault}
use Rattle.cat_syntax.specs.declared.syntax_fault.SyntaxFault.TheVariants as faults
use Rattle.cat_syntax.specs.declared.symbol.Symbol.{Symbol}
use Rattle.cat_syntax.specs.Counting.{weight}
use Rattle.cat_syntax.specs.Reading.{Stop, Reading, Gives, OrNoMemory, file_at}
use Rattle.cat_syntax.specs.Reads.{Tells, IsUnexpected, IsWrong, left_out, offset_of}
use Rattle.cat_syntax.specs.Stops.{StopsAt, IsExcess, excess_at, FaultAt, GrowsTooLarge}
use Rattle.cat_tree.specs.Tree.{File}
use Rattle.cat_syntax.proofs.Weights.{front_all, one_excess}
use Rattle.cat_syntax.proofs.Alike.{same_end}
use Rattle.cat_syntax.proofs.AlikeReadings.{alike-file}
use Rattle.cat_syntax.proofs.Places.{stops-of, take-take, take-length, take-whole, less-or}

-- the place of the symbols that are left
fault_there : (cause fault : SyntaxFault) (ss : List Symbol) (place : ℕ) → fault ≡ cause → OrNoMemory fault (StopsAt ss fault place) → OrNoMemory cause (StopsAt ss cause place)
fault_there cause fault ss place is stops = subst (λ f. OrNoMemory f (StopsAt ss f place)) is stops

no-wrong : (cause : SyntaxFault) (ss : List Symbol) (place : ℕ) → cause ≢ faults.TooDeep → cause ≢ faults.NoMemory → left_out cause (drop place ss) ≡ None → IsWrong cause (drop place ss)
no-wrong faults.Unexpected ss place h k e = e
no-wrong faults.BoundTwice ss place h k e = e
no-wrong faults.RecursiveFunction ss place h k e = e
no-wrong faults.TooDeep ss place h k e = absurd (h refl)
no-wrong faults.NoMemory ss place h k e = absurd (k refl)

told : (e : CatFault) (cause : SyntaxFault) (ss : List Symbol) (tokens : List Token) (end place : ℕ) → FaultAt ss cause place → cause ≢ faults.TooDeep → cause ≢ faults.NoMemory →
    IsUnexpected cause e (drop place ss) (offset_of (drop place tokens) end) → Tells e ss tokens end
told (Syntax n) cause ss tokens end place fault h k reported = record { place = place; cause = cause; fault = fault; wrong = no-wrong cause ss place h k reported.0; reported = reported.1 }
told (Unsupported w) cause ss tokens end place fault h k reported = record { place = place; cause = cause; fault = fault; word = reported }
told NoMemory cause ss tokens end place fault h k reported = tt
told e cause ss tokens end place fault h k reported = absurd reported

-- what is told of the first symbol that is left
told_by : (e : CatFault) (cause : SyntaxFault) (ss : List Symbol) (tokens : List Token) (end place : ℕ) (fault : SyntaxFault) → fault ≡ cause → cause ≢ faults.TooDeep → cause ≢ faults.NoMemory → FaultAt ss cause place →
    IsUnexpected fault e (take (length ss - place) (drop place ss)) (offset_of (take (length tokens - place) (drop place tokens)) end) → Tells e ss tokens end
told_by e cause ss tokens end place fault is h k there reported =
    told e cause ss tokens end place there h k (subst (λ f. IsUnexpected f e (drop place ss) (offset_of (drop place tokens) end)) is (rw (take_rest ss place, take_rest tokens place) at reported))

pub unexpected_told : (e : CatFault) (ss : List Symbol) (tokens : List Token) (end place : ℕ) (fault : SyntaxFault) → fault ≡ faults.Unexpected → OrNoMemory fault (StopsAt ss fault place) →
    ((n : ℕ) → IsExcess ss n → place ≤ n) → IsUnexpected fault e (take (length ss - place) (drop place ss)) (offset_of (take (length tokens - place) (drop place tokens)) end) → Tells e ss tokens end
unexpected_told e ss tokens end place fault is stops within reported =
    told_by e faults.Unexpected ss tokens end place fault is (λ f. cc) (λ f. cc) (record { stops = fault_there faults.Unexpected fault ss place is stops; within = within }) reported

pub function_told : (e : CatFault) (ss : List Symbol) (tokens : List Token) (end place : ℕ) (fault : SyntaxFault) → fault ≡ faults.RecursiveFunction → OrNoMemory fault (StopsAt ss fault place) →
    ((n : ℕ) → IsExcess ss n → place ≤ n) → IsUnexpected fault e (take (length ss - place) (drop place ss)) (offset_of (take (length tokens - place) (drop place tokens)) end) → Tells e ss tokens end
function_told e ss tokens end place fault is stops within reported =
    told_by e faults.RecursiveFunction ss tokens end place fault is (λ f. cc) (λ f. cc) (record { stops = fault_there faults.RecursiveFunction fault ss place is stops; within = within }) reported

pub twice_told : (n : ℕ) (ss : List Symbol) (tokens : List Token) (end place : ℕ) (fault : SyntaxFault) → fault ≡ faults.BoundTwice → OrNoMemory fault (StopsAt ss fault place) →
    ((n : ℕ) → IsExcess ss n → place ≤ n) → n ≡ offset_of (take (length tokens - place) (drop place tokens)) end → Tells (Syntax n) ss tokens end
twice_told n ss tokens end place fault is stops within reported = record {
  place = place;
  cause = faults.BoundTwice;
  fault = record { stops = fault_there faults.BoundTwice fault ss place is stops; within = within };
  wrong = refl;
  reported = rw (take_rest tokens place) at reported;
}

pub deep_told : (ss : List Symbol) (tokens : List Token) (end place : ℕ) (fault : SyntaxFault) → fault ≡ faults.TooDeep → OrNoMemory fault (StopsAt ss fault place) →
    ((n : ℕ) → IsExcess ss n → place ≤ n) → Tells TooDeep ss tokens end
deep_told ss tokens end place fault is stops within = (place, record { stops = fault_there faults.TooDeep fault ss place is stops; within = within })

-- a node too many begins at one symbol, and at none of a model

pub within_of : (ss : List Symbol) (n place : ℕ) → IsExcess ss n → place ≤ n → (m : ℕ) → IsExcess ss m → place ≤ m
within_of ss n place e h m f = omega (arith, h, one_excess ss n m e f)

pub no_excess : (ss : List Symbol) (place n : ℕ) → weight Naming 0 ss ≤ 4096 → IsExcess ss n → place ≤ n
no_excess ss place n h (excess_at counted s behind few many here reported) = absurd (omega (arith, h, many, front_all Naming 0 ss (counted + 1)))

-- where the reader stopped

no_more : (ss rest : List Symbol) (c : SyntaxFault) → file_at ss ≡ Err (c, rest) → length rest ≤ length ss
no_more ss rest c e = ((alike-file ss ss ss ss same_end).err c rest e).0

stops-where : (ss rest : List Symbol) (c : SyntaxFault) → file_at ss ≡ Err (c, rest) → StopsAt ss c (length ss - length rest)
stops-where ss rest c e = stops-of ss rest c (length ss - length rest) e (omega (arith, no_more ss rest c e))

pub stopped_at : (ss rest : List Symbol) (c : SyntaxFault) → Gives {X = File} {A = File} (λ f. f) (Err c) rest (file_at ss) → OrNoMemory c (StopsAt ss c (length ss - length rest))
stopped_at ss rest faults.NoMemory g = tt
stopped_at ss rest faults.Unexpected g = stops-where ss rest faults.Unexpected g
stopped_at ss rest faults.BoundTwice g = stops-where ss rest faults.BoundTwice g
stopped_at ss rest faults.RecursiveFunction g = stops-where ss rest faults.RecursiveFunction g
stopped_at ss rest faults.TooDeep g = stops-where ss rest faults.TooDeep g

-- all symbols, or those up to a place and two more

same-front : (ss : List Symbol) (shown place k : ℕ) → (length ss ≤ shown) ⊎ (place + 3 ≤ shown) → k ≤ place → take (k + 3) (take shown ss) ≡ take (k + 3) ss
same-front ss shown place k (inl h) l = ap (take (k + 3)) (take-whole shown ss h)
same-front ss shown place k (inr h) l = take-take (k + 3) shown ss (omega (arith, h, l))

shown-length : (ss : List Symbol) (shown : ℕ) → shown ≤ length ss → length (take shown ss) ≡ shown
shown-length ss shown h = take-length shown ss h

pub among : (ss rest : List Symbol) (shown place stopped : ℕ) (c : SyntaxFault) → shown ≤ length ss → (length ss ≤ shown) ⊎ (place + 3 ≤ shown) → stopped ≡ shown - length rest → stopped ≤ place →
    Gives {X = File} {A = File} (λ f. f) (Err c) rest (file_at (take shown ss)) → OrNoMemory c (StopsAt ss c stopped)
among ss rest shown place stopped c fits all is h g = of c (stopped_at (take shown ss) rest c g)
  where
    placed : length (take shown ss) - length rest ≡ stopped
    placed = ap (λ n. n - length rest) (shown-length ss shown fits) ∙ sym is

    whole : (c : SyntaxFault) → StopsAt (take shown ss) c (length (take shown ss) - length rest) → StopsAt ss c stopped
    whole c stops us same = subst (λ n. StopsAt (take shown ss) c n) placed stops us (same ∙ sym (same-front ss shown place stopped all h))

    of : (c : SyntaxFault) → OrNoMemory c (StopsAt (take shown ss) c (length (take shown ss) - length rest)) → OrNoMemory c (StopsAt ss c stopped)
    of faults.NoMemory stops = tt
    of faults.Unexpected stops = whole faults.Unexpected stops
    of faults.BoundTwice stops = whole faults.BoundTwice stops
    of faults.RecursiveFunction stops = whole faults.RecursiveFunction stops
    of faults.TooDeep stops = whole faults.TooDeep stops

pub shown_of : (ss : List Symbol) (shown place : ℕ) → shown ≡ min (length ss) (place + 3) → (length ss ≤ shown) ⊎ (place + 3 ≤ shown)
shown_of ss shown place is = elim (less-or (length ss) (place + 3)) [ inl h ↦ inl (omega (arith, h, is)) | inr h ↦ inr (omega (arith, h, is)) ]

-- no stop up to the place

pub large_read : (ss rest : List Symbol) (shown place : ℕ) (f : File) → (length ss ≤ shown) ⊎ (place + 3 ≤ shown) → IsExcess ss place →
    file_at (take shown ss) ≡ Ok (f, rest) → GrowsTooLarge ss
large_read ss rest shown place f all many e = record {
  place = place;
  excess = many;
  first = λ cause k stops. elim (less-or place k) [
    | inl h ↦ h
    | inr h ↦ absurd (let s = stops (take shown ss) (same-front ss shown place k all h) in let g = s.1 in cc)
  ];
}

large_stopped : (ss rest : List Symbol) (shown place : ℕ) (c : SyntaxFault) → shown ≤ length ss → (length ss ≤ shown) ⊎ (place + 3 ≤ shown) → IsExcess ss place →
    file_at (take shown ss) ≡ Err (c, rest) → place < shown - length rest → GrowsTooLarge ss
large_stopped ss rest shown place c fits all many e later = record {
  place = place;
  excess = many;
  first = λ cause k stops. elim (less-or place k) [
    | inl h ↦ h
    | inr h ↦
        let s = stops (take shown ss) (same-front ss shown place k all h) in
        let same : ◌≡◌ {A = Reading File} (Err (c, rest)) (Err (cause, s.0)) = sym e ∙ s.1 in
        let pair : ◌≡◌ {A = Stop} (c, rest) (cause, s.0) = cc in
        let left : rest ≡ s.0 = ap (λ (q : Stop). q.1) pair in
        absurd (omega (arith, h, later, s.2, ap length left, shown-length ss shown fits))
  ];
}

pub large_behind : (ss rest : List Symbol) (shown place : ℕ) (c : SyntaxFault) → shown ≤ length ss → (length ss ≤ shown) ⊎ (place + 3 ≤ shown) → IsExcess ss place →
    c ≢ faults.NoMemory → Gives {X = File} {A = File} (λ f. f) (Err c) rest (file_at (take shown ss)) → place < shown - length rest → GrowsTooLarge ss
large_behind ss rest shown place faults.NoMemory fits all many h g later = absurd (h refl)
large_behind ss rest shown place faults.Unexpected fits all many h g later = large_stopped ss rest shown place faults.Unexpected fits all many g later
large_behind ss rest shown place faults.BoundTwice fits all many h g later = large_stopped ss rest shown place faults.BoundTwice fits all many g later
large_behind ss rest shown place faults.RecursiveFunction fits all many h g later = large_stopped ss rest shown place faults.RecursiveFunction fits all many g later
large_behind ss rest shown place faults.TooDeep fits all many h g later = large_stopped ss rest shown place faults.TooDeep fits all many g later
