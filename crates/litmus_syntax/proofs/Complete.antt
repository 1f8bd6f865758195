-- What is in the grammar is read.
use Rattle.std.proofs.Common.{◌≡◌, ℕ, List, [], ◌∷◌, refl, subst, sym, ◌∙◌, length, inl, inr}
use Rattle.std.specs.Prelude.{◌++◌, true, false, None, Ok, codes}
use Rattle.std.specs.Fmt.{decimal}
use Rattle.std.specs.Str.{bytes_eq}
use Rattle.std.proofs.lemmas.Bool.{cases_Bool}
use Rattle.descent.proofs.Tools.{Yields, Shows, moved}
use Rattle.descent.proofs.Turns.{Arrives, last, next}
use Rattle.conditions.specs.declared.place.Binding.{Binding}
use Rattle.conditions.specs.declared.place.Place.{Place}
use Rattle.conditions.specs.declared.place.Place.TheVariants.{Loc}
use Rattle.conditions.specs.declared.condition.Kind.{Kind}
use Rattle.litmus_syntax.specs.declared.symbol.Symbol.{Symbol}
use Rattle.litmus_syntax.specs.declared.symbol.Symbol.TheVariants.{Fixed, Name, Number, Word as head_word}
use Rattle.litmus_syntax.specs.declared.symbol.Terminal.{Terminal}
use Rattle.litmus_syntax.specs.declared.symbol.Terminal.TheVariants.{Volatile, Locations, RightParen, LeftBrace, RightBrace, Semicolon, Comma, Assign, Star}
use Rattle.litmus_tree.specs.declared.tree.LocationKind.{LocationKind}
use Rattle.litmus_tree.specs.declared.tree.Parameter.{Parameter}
use Rattle.conditions.specs.Conditions.{Condition}
use Rattle.litmus_syntax.specs.Drafts.{Listing, Written, is_parameter}
use Rattle.litmus_syntax.specs.Grammar.{location_name, location_bracket, IsPlace, place_register, place_location, IsType, type_int, type_atomic, IsUntyped, untyped_zero, untyped_value, IsEntry, entry_untyped, entry_typed, IsEntries, entries_none, entries_one, entries_empty, entries_more, HasKind, kind_atomic, kind_plain, IsParameter, parameter_typed, parameter_volatile, IsNew, IsParameters, parameters_one, parameters_more as parameters_and, IsParameterList, list_none, list_some, IsThread, thread_body, IsThreads, threads_one, threads_more as threads_and, IsListed, listed_none, listed_some, denies_tilde, denies_not, IsKind, kind_exists, kind_not_exists, kind_forall, IsCondition, condition_of, IsWritten, written, Spells}
use Rattle.litmus_syntax.specs.Reading.{Reading, syntax, after, expected, name_at, before_name, place_at, bare, bound_at, behind_type, entry_at, ends_entry, entry_behind, entries_at, kind_at, behind_volatile, parameter_behind, parameters_more, parameters_at, parameters_closed, parameter_list_at, thread_name_at, thread_at, threads_more, threads_at, word_at, language_at, end_at, initial_at, test_at}
use Rattle.litmus_tree.specs.Tree.{Word}
use Rattle.litmus_syntax.proofs.Levels.{entries_turn_takes, parameters_turn_takes, threads_turn_takes}
use Rattle.litmus_syntax.proofs.Places.{place-complete, number-first, listed-complete}
use Rattle.litmus_syntax.proofs.Propositions.{EndsFormula, condition-complete}
use Rattle.litmus_syntax.proofs.Statements.{steps-complete}
use Rattle.litmus_syntax.proofs.SingleSymbols.{bytes_eq-refl, bytes_eq-true, after-first, expected-first, open-first}

-- The initial state.

-- an entry without its type, where no value follows
untyped-complete : {ts rest : List Symbol} {b : Binding} → IsUntyped ts rest b → after Assign rest ≡ None → (p : Place) × (us : List Symbol) × Yields place_at ts us p × Yields (bound_at p) us rest b
unfolding bound_at bare
untyped-complete (untyped_zero {ts} {rest} {x} d) ends = (Loc x, rest, place-complete (place_location d), record { is = rw ends })
untyped-complete (untyped_value {ts} {rest} {p} {v} d) ends = (p, Fixed Assign ∷ Number v ∷ rest, place-complete d, record { is = rw (after-first Assign (Number v ∷ rest), number-first v rest) })

-- a place begins with no type
place-untyped : {ts rest : List Symbol} {p : Place} → IsPlace ts rest p → behind_type ts ≡ ts
unfolding behind_type after
place-untyped place_register = refl
place-untyped (place_location location_name) = refl
place-untyped (place_location location_bracket) = refl

untyped-first : {ts rest : List Symbol} {b : Binding} → IsUntyped ts rest b → behind_type ts ≡ ts
untyped-first (untyped_zero d) = place-untyped (place_location d)
untyped-first (untyped_value d) = place-untyped d

type-first : {t : Terminal} → IsType t → (ts : List Symbol) → behind_type (Fixed t ∷ ts) ≡ ts
unfolding behind_type after
type-first type_int ts = refl
type-first type_atomic ts = refl

entry-complete : {ts rest : List Symbol} {b : Binding} → IsEntry ts rest b → after Assign rest ≡ None → Yields entry_at ts rest b
unfolding entry_at
entry-complete (entry_untyped d) ends =
    let u = untyped-complete d ends in
    let p = u.2.is in
    let q = u.3.is in
    record { is = rw (untyped-first d, p, q) }
entry-complete (entry_typed {ts = ts} t d) ends =
    let u = untyped-complete d ends in
    let p = u.2.is in
    let q = u.3.is in
    record { is = rw (type-first t ts, p, q) }

place-opens : {ts rest : List Symbol} {p : Place} → IsPlace ts rest p → ends_entry ts ≡ false
unfolding ends_entry
place-opens place_register = refl
place-opens (place_location location_name) = refl
place-opens (place_location location_bracket) = refl

entry-opens : {ts rest : List Symbol} {b : Binding} → IsEntry ts rest b → ends_entry ts ≡ false
unfolding ends_entry
entry-opens (entry_untyped (untyped_zero d)) = place-opens (place_location d)
entry-opens (entry_untyped (untyped_value d)) = place-opens d
entry-opens (entry_typed type_int d) = refl
entry-opens (entry_typed type_atomic d) = refl

entry-behind : (bs : List Binding) {ts rest : List Symbol} {b : Binding} → IsEntry ts rest b → after Assign rest ≡ None → Yields (entry_behind bs) ts rest (bs ++ b ∷ [])
unfolding entry_behind
entry-behind bs d ends = record { is = rw (entry-opens d, (entry-complete d ends).is) }

none-behind : (bs : List Binding) (ts : List Symbol) → ends_entry ts ≡ true → Yields (entry_behind bs) ts ts bs
unfolding entry_behind
none-behind bs ts e = record { is = rw e }

-- nothing that ends an entry is an equals sign
ends-value : (ts : List Symbol) → ends_entry ts ≡ true → after Assign ts ≡ None
unfolding ends_entry after
ends-value [] e = absurd (cc)
ends-value (Fixed Semicolon ∷ ts) e = refl
ends-value (Fixed RightBrace ∷ ts) e = refl
ends-value (Fixed t ∷ ts) e = absurd (cc)
ends-value (s ∷ ts) e = absurd (cc)

abbrev EntriesTo : List Symbol → List Symbol → List Binding → Type 0
EntriesTo ts rest bs = Arrives (syntax 0) (after Semicolon) (λ _ bs us. entry_behind bs us) entries_at ts rest bs

entries-first : {ts rest : List Symbol} {bs : List Binding} → Yields (entry_behind []) ts rest bs → EntriesTo ts rest bs
unfolding entries_at
entries-first y = record { is = rw y.is }

semicolon : (ts : List Symbol) → Shows (after Semicolon) (Fixed Semicolon ∷ ts) ts tt
semicolon ts = record { is = after-first Semicolon ts }

entries-next : {ts mid rest : List Symbol} {bs cs : List Binding} → EntriesTo ts (Fixed Semicolon ∷ mid) bs → Yields (entry_behind bs) mid rest cs → EntriesTo ts rest cs
entries-next {mid = mid} s y = next (syntax 0) (after Semicolon) (λ _ bs us. entry_behind bs us) entries_turn_takes s (semicolon mid) y

semicolon-ends : (ts : List Symbol) → ends_entry (Fixed Semicolon ∷ ts) ≡ true
unfolding ends_entry
semicolon-ends ts = refl

entries-arrive : {ts rest : List Symbol} {bs : List Binding} → IsEntries ts rest bs → ends_entry rest ≡ true → EntriesTo ts rest bs
entries-arrive (entries_none {ts}) ends = entries-first (none-behind [] ts ends)
entries-arrive (entries_one {rest = rest} d) ends = entries-first (entry-behind [] d (ends-value rest ends))
entries-arrive (entries_empty {rest = rest} {bs} d) ends = entries-next (entries-arrive d (semicolon-ends rest)) (none-behind bs rest ends)
entries-arrive (entries_more {mid = mid} {rest} {bs} d e) ends = entries-next (entries-arrive d (semicolon-ends mid)) (entry-behind bs e (ends-value rest ends))

brace-ends : (ts : List Symbol) → ends_entry (Fixed RightBrace ∷ ts) ≡ true
unfolding ends_entry
brace-ends ts = refl

no_semicolon : (ts : List Symbol) → after Semicolon (Fixed RightBrace ∷ ts) ≡ None
unfolding after
no_semicolon ts = refl

entries-complete : {ts rest : List Symbol} {bs : List Binding} → IsEntries ts (Fixed RightBrace ∷ rest) bs → Yields entries_at ts (Fixed RightBrace ∷ rest) bs
entries-complete {rest = rest} d = last (entries-arrive d (brace-ends rest)) (no_semicolon rest)

-- Parameters.

new-false : (ps : List Parameter) (p : Parameter) → IsNew p ps → is_parameter ps p.name ≡ false
new-false [] p new = refl
new-false (q ∷ ps) p new =
    elim (cases_Bool (bytes_eq q.name p.name)) [
      | inl e ↦ absurd (new q (inl refl) (bytes_eq-true q.name p.name e))
      | inr e ↦ rw (e, new-false ps p (λ r h. new r (inr h))) refl
    ]

kind-first : {t : Terminal} {k : LocationKind} → HasKind t k → (ts : List Symbol) → kind_at (Fixed t ∷ ts) ≡ Ok (k, ts)
unfolding kind_at expected after
kind-first kind_atomic ts = refl
kind-first kind_plain ts = refl

kind-no_volatile : {t : Terminal} {k : LocationKind} → HasKind t k → (ts : List Symbol) → behind_volatile (Fixed t ∷ ts) ≡ Fixed t ∷ ts
unfolding behind_volatile after
kind-no_volatile kind_atomic ts = refl
kind-no_volatile kind_plain ts = refl

volatile-first : (ts : List Symbol) → behind_volatile (Fixed Volatile ∷ ts) ≡ ts
unfolding behind_volatile
volatile-first ts = rw (after-first Volatile ts)

parameter-complete : (ps : List Parameter) {ts rest : List Symbol} {p : Parameter} → IsParameter ts rest p → IsNew p ps → Yields (parameter_behind ps) ts rest p
unfolding parameter_behind name_at
parameter-complete ps (parameter_typed {k = k} {x} {rest} d) new =
    record { is = rw (kind-no_volatile d (Fixed Star ∷ Name x ∷ rest), kind-first d (Fixed Star ∷ Name x ∷ rest), expected-first Star (Name x ∷ rest), new-false ps (record { name = x; kind = k }) new) }
parameter-complete ps (parameter_volatile {t} {k} {x} {rest} d) new =
    record { is = rw (volatile-first (Fixed t ∷ Fixed Star ∷ Name x ∷ rest), kind-first d (Fixed Star ∷ Name x ∷ rest), expected-first Star (Name x ∷ rest), new-false ps (record { name = x; kind = k }) new) }

parameter-more : (ps : List Parameter) {ts rest : List Symbol} {p : Parameter} → Yields (parameter_behind ps) ts rest p → Yields (parameters_more ps) ts rest (ps ++ p ∷ [])
unfolding parameters_more
parameter-more ps y = record { is = rw y.is }

abbrev ParametersTo : List Symbol → List Symbol → List Parameter → Type 0
ParametersTo ts rest ps = Arrives (syntax 0) (after Comma) (λ _ ps us. parameters_more ps us) parameters_at ts rest ps

parameters-first : {ts rest : List Symbol} {ps : List Parameter} → Yields (parameters_more []) ts rest ps → ParametersTo ts rest ps
unfolding parameters_at
parameters-first y = record { is = rw y.is }

comma : (ts : List Symbol) → Shows (after Comma) (Fixed Comma ∷ ts) ts tt
comma ts = record { is = after-first Comma ts }

parameters-next : {ts mid rest : List Symbol} {ps qs : List Parameter} → ParametersTo ts (Fixed Comma ∷ mid) ps → Yields (parameters_more ps) mid rest qs → ParametersTo ts rest qs
parameters-next {mid = mid} s y = next (syntax 0) (after Comma) (λ _ ps us. parameters_more ps us) parameters_turn_takes s (comma mid) y

none-new : (p : Parameter) → IsNew p []
none-new p q h = absurd h

parameters-arrive : {ts rest : List Symbol} {ps : List Parameter} → IsParameters ts rest ps → ParametersTo ts rest ps
parameters-arrive (parameters_one {p = p} d) = parameters-first (parameter-more [] (parameter-complete [] d (none-new p)))
parameters-arrive (parameters_and {ps = ps} d e new) = parameters-next (parameters-arrive d) (parameter-more ps (parameter-complete ps e new))

no_comma : (ts : List Symbol) → after Comma (Fixed RightParen ∷ ts) ≡ None
unfolding after
no_comma ts = refl

parameter-opens : {ts rest : List Symbol} {p : Parameter} → IsParameter ts rest p → after RightParen ts ≡ None
unfolding after
parameter-opens (parameter_typed kind_atomic) = refl
parameter-opens (parameter_typed kind_plain) = refl
parameter-opens (parameter_volatile d) = refl

parameters-open : {ts rest : List Symbol} {ps : List Parameter} → IsParameters ts rest ps → after RightParen ts ≡ None
parameters-open (parameters_one d) = parameter-opens d
parameters-open (parameters_and d e new) = parameters-open d

parameter_list-complete : {n : ℕ} {ts rest : List Symbol} {ps : List Parameter} → IsParameterList n ts rest ps → Yields (parameter_list_at n) ts rest ps
unfolding parameter_list_at parameters_closed
parameter_list-complete (list_none {n} {rest}) = record { is = rw (open-first n (Fixed RightParen ∷ rest), after-first RightParen rest) }
parameter_list-complete (list_some {n} {ts} {rest} d) =
    let y = last (parameters-arrive d) (no_comma rest) in
    record { is = rw (open-first n ts, parameters-open d, y.is, expected-first RightParen rest) }

-- Threads.

thread_name-first : (k : ℕ) (ts : List Symbol) → thread_name_at k (Name (codes "P" ++ decimal k) ∷ ts) ≡ Ok (tt, ts)
unfolding thread_name_at name_at
thread_name-first k ts = rw (bytes_eq-refl (codes "P" ++ decimal k))

thread-complete : {n k : ℕ} {ts rest : List Symbol} {b : Listing} → IsThread n k ts rest b → Yields (thread_at n k) ts rest b
unfolding thread_at
thread-complete (thread_body {n} {k} {ts} {us} d e) = record { is = rw (thread_name-first k ts, (parameter_list-complete d).is, expected-first LeftBrace us, (steps-complete e).is) }

thread-opens : {n k : ℕ} {ts rest : List Symbol} {b : Listing} → IsThread n k ts rest b → Shows before_name ts ts tt
unfolding before_name
thread-opens (thread_body d e) = record { is = refl }

abbrev ThreadsTo : ℕ → List Symbol → List Symbol → List Listing → Type 0
ThreadsTo n ts rest bs = Arrives (syntax 0) before_name (threads_more n) (threads_at n) ts rest bs

thread-more : (n : ℕ) (bs : List Listing) {ts rest : List Symbol} {b : Listing} → Yields (thread_at n (length bs)) ts rest b → Yields (threads_more n tt bs) ts rest (bs ++ b ∷ [])
unfolding threads_more
thread-more n bs y = record { is = rw y.is }

threads-first : (n : ℕ) {ts rest : List Symbol} {bs : List Listing} → Yields (threads_more n tt []) ts rest bs → ThreadsTo n ts rest bs
unfolding threads_at
threads-first n y = record { is = rw y.is }

threads-next : (n : ℕ) {ts mid rest : List Symbol} {bs cs : List Listing} → ThreadsTo n ts mid bs → Shows before_name mid mid tt → Yields (threads_more n tt bs) mid rest cs → ThreadsTo n ts rest cs
threads-next n s o y = next (syntax 0) before_name (threads_more n) (threads_turn_takes n) s o y

threads-arrive : {n : ℕ} {ts rest : List Symbol} {bs : List Listing} → IsThreads n ts rest bs → ThreadsTo n ts rest bs
threads-arrive (threads_one {n} d) = threads-first n (thread-more n [] (thread-complete d))
threads-arrive (threads_and {n} {bs = bs} d e) = threads-next n (threads-arrive d) (thread-opens e) (thread-more n bs (thread-complete e))

-- Conditions.

nothing-ends : EndsFormula []
unfolding after
nothing-ends = record { no_and = refl; no_or = refl; no_arrow = refl }

-- a condition, and what may stand before it, begins with no name
kind-opens : {ts rest : List Symbol} {k : Kind} → IsKind ts rest k → (before_name ts ≡ None) × (after Locations ts ≡ None)
unfolding before_name after
kind-opens kind_exists = (refl, refl)
kind-opens (kind_not_exists denies_tilde) = (refl, refl)
kind-opens (kind_not_exists denies_not) = (refl, refl)
kind-opens kind_forall = (refl, refl)

condition-opens : {n : ℕ} {ts rest : List Symbol} {c : Condition} → IsCondition n ts rest c → (before_name ts ≡ None) × (after Locations ts ≡ None)
condition-opens (condition_of k d) = kind-opens k

listed-opens : {ts rest : List Symbol} {ps : List Place} → IsListed ts rest ps → before_name rest ≡ None → before_name ts ≡ None
unfolding before_name
listed-opens listed_none e = e
listed-opens (listed_some d) e = refl

-- Tests.

head-first : (x : Word) (ts : List Symbol) → word_at (head_word x ∷ ts) ≡ Ok (x, ts)
unfolding word_at
head-first x ts = refl

language-first : (ts : List Symbol) → language_at (head_word (codes "C") ∷ ts) ≡ Ok (tt, ts)
unfolding language_at
language-first ts = rw (head-first (codes "C") ts)

nothing-left : end_at [] ≡ Ok (tt, [])
unfolding end_at
nothing-left = refl

pub test-complete : {n : ℕ} {ts rest : List Symbol} {w : Written} → IsWritten n ts rest w → rest ≡ [] → test_at n ts ≡ Ok (w, [])
unfolding test_at initial_at
test-complete (written {n} {x} {ts} {us} {vs} {ws} {rest} {bs} {ls} {ps} {c} d e q f) none =
    let g : IsCondition n ws [] c = subst (λ l. IsCondition n ws l c) none f in
    let opens = condition-opens f in
    rw (
      language-first (head_word x ∷ Fixed LeftBrace ∷ ts),
      head-first x (Fixed LeftBrace ∷ ts),
      expected-first LeftBrace ts,
      (entries-complete d).is,
      expected-first RightBrace us,
      (last (threads-arrive e) (listed-opens q opens.0)).is,
      (listed-complete q opens.1).is,
      (condition-complete g nothing-ends).is,
      nothing-left,
    )

pub same : {v w : Written} → ◌≡◌ {A = Reading Written} (Ok (v, [])) (Ok (w, [])) → v ≡ w
same {v} e = moved (λ l t. v ≡ t) e refl

pub one_reading : (ts : List Symbol) (v w : Written) → Spells ts v → Spells ts w → v ≡ w
one_reading ts v w d e =
    let f : test_at 32 ts ≡ Ok (v, []) = test-complete d refl in
    let g : test_at 32 ts ≡ Ok (w, []) = test-complete e refl in
    same (sym f ∙ g)
