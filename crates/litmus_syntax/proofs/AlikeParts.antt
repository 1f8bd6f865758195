-- Reading functions in which nothing nests: what is told of their causes, and that they do the same on symbols that begin alike.
use Rattle.std.proofs.Common.{◌≡◌, ℕ, zero, suc, List, [], ◌∷◌, length, arith, refl, sym, subst}
use Rattle.std.specs.Prelude.{Bool, true, false, Option, Some, None, Ok, Err, if◌then◌else◌, codes, ◌==◌}
use Rattle.std.specs.Str.{bytes_eq}
use Rattle.descent.specs.Reading.{Look, match_option, ◌>>=◌, required}
use Rattle.events.specs.declared.event.Order.{Order}
use Rattle.conditions.specs.declared.place.Binding.{Binding}
use Rattle.conditions.specs.declared.place.Place.{Place}
use Rattle.conditions.specs.declared.place.Place.TheVariants.{Reg, Loc}
use Rattle.litmus_syntax.specs.declared.symbol.Symbol.{Symbol}
use Rattle.litmus_syntax.specs.declared.symbol.Symbol.TheVariants.{Fixed, Name, Number, Word as head_word}
use Rattle.litmus_syntax.specs.declared.symbol.Terminal.{Terminal}
use Rattle.litmus_syntax.specs.declared.symbol.Terminal.TheVariants.{Int, AtomicInt, Volatile, True, False, Exists, Forall, Not, Locations, RightParen, LeftBrace, RightBrace, LeftBracket, RightBracket, Semicolon, Colon, Comma, Assign, Star, Tilde, EqualEqual, BangEqual, AndAnd, OrOr}
use Rattle.litmus_tree.specs.declared.expression.Operator.TheVariants as operators
use Rattle.litmus_tree.specs.declared.tree.LocationKind.{LocationKind}
use Rattle.litmus_tree.specs.declared.tree.Parameter.{Parameter}
use Rattle.litmus_syntax.specs.Atomics.{orders}
use Rattle.litmus_syntax.specs.Drafts.{is_parameter}
use Rattle.litmus_syntax.specs.Reading.{Cause, Reading, syntax, deep, parameters_closed, misordered, terminal_eq, after, expected, unless, name_at, number_look, number_at, before_name, location_at, register_at, place_at, bare, bound_at, behind_type, entry_at, ends_entry, entry_behind, entries_at, kind_at, behind_volatile, parameter_behind, parameters_more, parameters_at, operator_at, is_among, order_at, last_order_at, closing_at, names_thread, thread_name_at, ends_place, place_behind, places_at, bracketed_at, listed_at, equation_at, denial, plain_atomic_at, kind_of_at, word_at, language_at, end_at, initial_at}
use Rattle.litmus_syntax.specs.Symbols.{looked_up}
use Rattle.descent.proofs.Causes.{Caused, caused_ok, caused_err, caused_behind, Tail, tail_here, tail_later, Raised}
use Rattle.litmus_syntax.proofs.SingleSymbols.{before_name-same, unless-same}
use Rattle.litmus_syntax.proofs.Alike.{Tells, Any, placed, Alike, alike_last, alike_next, Agree, agree_stuck, agree_past, Both, Head, head_none, head_some, Shown, shown_none, shown_some, Seen, Skips, both_any, both_bind, both_ok, both_stuck, both_misordered, both_if, both_test, seen_first, both_match, both_required, skip_none, skip_match, both_behind, both_repeated}
use Rattle.litmus_syntax.proofs.Levels.{entries_turn_takes, parameters_turn_takes}
use Rattle.litmus_syntax.proofs.Places.{places_turn_takes}

-- What stands first.

head_if : {A : Type 0} {ts us : List Symbol} (b : Bool) {o p q t : Look Symbol A} → Head ts us o p → Head ts us q t → Head ts us (if b then o else q) (if b then p else t)
head_if true h k = h
head_if false h k = k

head_after : (t : Terminal) (x : Symbol) (ts us : List Symbol) → Head ts us (after t (x ∷ ts)) (after t (x ∷ us))
unfolding after
head_after t (Fixed u) ts us = head_if (terminal_eq u t) head_some head_none
head_after t x ts us = head_none

head_number : (x : Symbol) (ts us : List Symbol) → Head ts us (number_look (x ∷ ts)) (number_look (x ∷ us))
unfolding number_look
head_number (Number n) ts us = head_some
head_number x ts us = head_none

-- one of two
head_either : {A B : Type 0} {ts us : List Symbol} {o p : Look Symbol A} {q t : Look Symbol B} (v : B) → Head ts us o p → Head ts us q t → Head ts us (match_option o q (λ y. Some (v, y.1))) (match_option p t (λ y. Some (v, y.1)))
head_either v head_none k = k
head_either v head_some k = head_some

head_operator : (k : ℕ) (x : Symbol) (ts us : List Symbol) → Head ts us (operator_at k (x ∷ ts)) (operator_at k (x ∷ us))
unfolding operator_at
head_operator zero x ts us = head_either operators.Equal (head_after EqualEqual x ts us) (head_either operators.Unequal (head_after BangEqual x ts us) head_none)
head_operator (suc zero) x ts us = head_either operators.Both (head_after AndAnd x ts us) head_none
head_operator (suc (suc zero)) x ts us = head_either operators.Either (head_after OrOr x ts us) head_none
head_operator (suc (suc (suc k))) x ts us = head_none

head_denial : (x : Symbol) (ts us : List Symbol) → Head ts us (denial (x ∷ ts)) (denial (x ∷ us))
unfolding denial
head_denial x ts us = head_either tt (head_after Tilde x ts us) (head_after Not x ts us)

operator_end : (k : ℕ) → operator_at k [] ≡ None
unfolding operator_at after
operator_end zero = refl
operator_end (suc zero) = refl
operator_end (suc (suc zero)) = refl
operator_end (suc (suc (suc k))) = refl

ends_entry_first : (x : Symbol) (ts us : List Symbol) → ends_entry (x ∷ ts) ≡ ends_entry (x ∷ us)
unfolding ends_entry
ends_entry_first (Fixed Semicolon) ts us = refl
ends_entry_first (Fixed RightBrace) ts us = refl
ends_entry_first x ts us = refl

ends_place_first : (x : Symbol) (ts us : List Symbol) → ends_place (x ∷ ts) ≡ ends_place (x ∷ us)
unfolding ends_place
ends_place_first (Fixed Semicolon) ts us = refl
ends_place_first (Fixed RightBracket) ts us = refl
ends_place_first x ts us = refl

takes_before : (ts : List Symbol) (x : Unit {0} × List Symbol) → before_name ts ≡ Some x → Tail ts x.1
takes_before ts x e = subst (λ l. Tail ts l) (sym (before_name-same ts x.1 x.0 e)) tail_here

takes_unless : (t : Terminal) (ts : List Symbol) (x : Unit {0} × List Symbol) → unless t ts ≡ Some x → Tail ts x.1
takes_unless t ts x e = subst (λ l. Tail ts l) (sym (unless-same t ts x.1 x.0 e)) tail_here

-- What is read where x stands first: it goes on behind x, or is read from x on, or stops at x.
pub data Taken {A : Type 0} (D : Type 0) (M : List Symbol → Type 0) (x : Symbol) (ts us : List Symbol) : Reading A → Reading A → Type 0 where
  taken_behind : {o p : Reading A} → Caused (Tells D M) (x ∷ ts) o → Both D Any ts us o p → Taken D M x ts us o p
  taken_here : {o p : Reading A} → Both D M (x ∷ ts) (x ∷ us) o p → Taken D M x ts us o p
  taken_stuck : Taken D M x ts us (Err (syntax (suc (length ts)))) (Err (syntax (suc (length us))))

-- a name that is none of these parameters'
abbrev new_name : List Parameter → LocationKind → List Symbol → Reading Parameter
new_name ps k ts = name_at ts >>= λ x. if is_parameter ps x.0 then Err (syntax (length ts)) else Ok (record { name = x.0; kind = k }, x.1)

-- behind the parenthesis that opens a list of parameters
abbrev parameters_behind : List Symbol → Reading (List Parameter)
parameters_behind ts = match_option (after RightParen ts) (parameters_closed ts) (λ y. Ok ([], y.1))

ends_entry_alike : {ts us : List Symbol} (r s : List Symbol) → Alike r s ts us → ends_entry ts ≡ ends_entry us
ends_entry_alike r s (alike_last {x}) = ends_entry_first x r s
ends_entry_alike r s (alike_next {x} {ts} {us} d) = ends_entry_first x ts us

ends_place_alike : {ts us : List Symbol} (r s : List Symbol) → Alike r s ts us → ends_place ts ≡ ends_place us
ends_place_alike r s (alike_last {x}) = ends_place_first x r s
ends_place_alike r s (alike_next {x} {ts} {us} d) = ends_place_first x ts us

pub seen_after : (t : Terminal) (ts us : List Symbol) → Seen ts us (after t ts) (after t us)
unfolding after
seen_after t ts us = seen_first (after t) refl (head_after t) ts us

pub seen_number : (ts us : List Symbol) → Seen ts us (number_look ts) (number_look us)
unfolding number_look
seen_number ts us = seen_first number_look refl head_number ts us

pub seen_operator : (k : ℕ) (ts us : List Symbol) → Seen ts us (operator_at k ts) (operator_at k us)
seen_operator k ts us = seen_first (operator_at k) (operator_end k) (head_operator k) ts us

pub seen_denial : (ts us : List Symbol) → Seen ts us (denial ts) (denial us)
unfolding denial after
seen_denial ts us = seen_first denial refl head_denial ts us

-- nothing is taken

before_shown : {ts us : List Symbol} (r s : List Symbol) → Alike r s ts us → Shown r s (before_name ts) (before_name us)
unfolding before_name
before_shown r s (alike_last {x = Name y}) = shown_some alike_last
before_shown r s (alike_next {x = Name y} d) = shown_some (alike_next d)
before_shown r s (alike_last {x}) = shown_none
before_shown r s (alike_next {x} d) = shown_none

pub seen_before : (ts us : List Symbol) → Seen ts us (before_name ts) (before_name us)
seen_before ts us = record { takes = takes_before ts; shown = before_shown }

unless_head : {r s vs ws ts us : List Symbol} {o p : Look Symbol (Unit {0})} → Alike r s ts us → Head vs ws o p → Shown {A = Unit {0}} r s (match_option o (Some (tt, ts)) (λ _. None)) (match_option p (Some (tt, us)) (λ _. None))
unless_head d head_none = shown_some d
unless_head d head_some = shown_none

unless_shown : (t : Terminal) {ts us : List Symbol} (r s : List Symbol) → Alike r s ts us → Shown r s (unless t ts) (unless t us)
unfolding unless
unless_shown t r s (alike_last {x}) = unless_head alike_last (head_after t x r s)
unless_shown t r s (alike_next {x} {ts} {us} d) = unless_head (alike_next d) (head_after t x ts us)

pub seen_unless : (t : Terminal) (ts us : List Symbol) → Seen ts us (unless t ts) (unless t us)
seen_unless t ts us = record { takes = takes_unless t ts; shown = unless_shown t }

skip_type : (ts us : List Symbol) → Skips ts us (behind_type ts) (behind_type us)
unfolding behind_type
skip_type ts us = skip_match (seen_after Int ts us) (skip_match (seen_after AtomicInt ts us) skip_none)

skip_volatile : (ts us : List Symbol) → Skips ts us (behind_volatile ts) (behind_volatile us)
unfolding behind_volatile
skip_volatile ts us = skip_match (seen_after Volatile ts us) skip_none

-- where x stands first, this cause is raised
called_raised : {A D : Type 0} {M : List Symbol → Type 0} {x : Symbol} {ts : List Symbol} {o : Reading A} → Caused (Tells D Any) ts o → (o ≡ Err misordered → M (x ∷ ts)) → (e : Cause) → o ≡ Err e → Raised (Tells D M) e (x ∷ ts)
called_raised h m (syntax n) f = let q = h.raised (syntax n) f in record { left = q.left; behind = tail_later q.behind; tells = q.tells }
called_raised h m deep f = let q = h.raised deep f in record { left = q.left; behind = tail_later q.behind; tells = q.tells }
called_raised {x = x} {ts} h m misordered f = record { left = x ∷ ts; behind = tail_here; tells = m f }

module _ {D : Type 0} {M : List Symbol → Type 0} where
  -- Single symbols.

  pub both_expected : (t : Terminal) (ts us : List Symbol) → Both D M ts us (expected t ts) (expected t us)
  unfolding expected
  both_expected t ts us = both_required (seen_after t ts us)

  pub both_number : (ts us : List Symbol) → Both D M ts us (number_at ts) (number_at us)
  unfolding number_at
  both_number ts us = both_required (seen_number ts us)

  -- Where the first symbol decides.

  pub taken_on : {A : Type 0} {x : Symbol} {ts us : List Symbol} {o p : Reading A} → Both D M ts us o p → Taken D M x ts us o p
  taken_on b = taken_behind (caused_behind (tail_later tail_here) b.told) (both_any b)

  -- of what is behind a call M tells with the call
  pub taken_call : {A : Type 0} {x : Symbol} {ts us : List Symbol} {o p : Reading A} → Both D Any ts us o p → (o ≡ Err misordered → M (x ∷ ts)) → Taken D M x ts us o p
  taken_call b m = taken_behind (record { tail = λ a rest e. tail_later (b.told.tail a rest e); raised = called_raised b.told m }) b

  taken_told : {A : Type 0} {x : Symbol} {ts us : List Symbol} {o p : Reading A} → Taken D M x ts us o p → Caused (Tells D M) (x ∷ ts) o
  taken_told (taken_behind h b) = h
  taken_told (taken_here b) = b.told
  taken_told {ts = ts} taken_stuck = caused_err (syntax (suc (length ts))) (omega arith)

  taken_last : {A : Type 0} {x : Symbol} {r s : List Symbol} {o p : Reading A} → Taken D M x r s o p → Agree r s o p
  taken_last (taken_behind h b) = agree_past (placed b.told)
  taken_last {r = r} {s} (taken_here b) = b.agree r s alike_last
  taken_last {x = x} taken_stuck = agree_stuck (alike_last {x = x})

  taken_next : {A : Type 0} {x : Symbol} {r s ts us : List Symbol} {o p : Reading A} → Alike r s ts us → Taken D M x ts us o p → Agree r s o p
  taken_next {r = r} {s} d (taken_behind h b) = b.agree r s d
  taken_next {r = r} {s} d (taken_here b) = b.agree r s (alike_next d)
  taken_next {x = x} d taken_stuck = agree_stuck (alike_next {x = x} d)

  first_agree : {A : Type 0} (f : List Symbol → Reading A) → ((x : Symbol) (ts us : List Symbol) → Taken D M x ts us (f (x ∷ ts)) (f (x ∷ us))) → {ts us : List Symbol} (r s : List Symbol) → Alike r s ts us → Agree r s (f ts) (f us)
  first_agree f h r s (alike_last {x}) = taken_last (h x r s)
  first_agree f h r s (alike_next {x} {ts} {us} d) = taken_next d (h x ts us)

  first_told : {A : Type 0} (f : List Symbol → Reading A) → Caused (Tells D M) [] (f []) → ((x : Symbol) (ts us : List Symbol) → Taken D M x ts us (f (x ∷ ts)) (f (x ∷ us))) → (ts : List Symbol) → Caused (Tells D M) ts (f ts)
  first_told f nil h [] = nil
  first_told f nil h (x ∷ ts) = taken_told (h x ts ts)

  pub both_first : {A : Type 0} (f : List Symbol → Reading A) → Caused (Tells D M) [] (f []) → ((x : Symbol) (ts us : List Symbol) → Taken D M x ts us (f (x ∷ ts)) (f (x ∷ us))) → (ts us : List Symbol) → Both D M ts us (f ts) (f us)
  both_first f nil h ts us = record { told = first_told f nil h ts; agree = first_agree f h }

  -- no symbol is left to read
  pub at_end : {A : Type 0} → Caused {A = A} (Tells D M) [] (Err (syntax 0))
  at_end = caused_err (syntax 0) (omega arith)

  pub taken_if : {A : Type 0} {x : Symbol} {ts us : List Symbol} (b : Bool) {o p q t : Reading A} → Taken D M x ts us o p → Taken D M x ts us q t → Taken D M x ts us (if b then o else q) (if b then p else t)
  taken_if true h k = h
  taken_if false h k = k

  taken_name : (x : Symbol) (ts us : List Symbol) → Taken D M x ts us (name_at (x ∷ ts)) (name_at (x ∷ us))
  unfolding name_at
  taken_name (Name x) ts us = taken_on both_ok
  taken_name x ts us = taken_stuck

  pub both_name : (ts us : List Symbol) → Both D M ts us (name_at ts) (name_at us)
  unfolding name_at
  both_name = both_first name_at at_end taken_name

  taken_word : (x : Symbol) (ts us : List Symbol) → Taken D M x ts us (word_at (x ∷ ts)) (word_at (x ∷ us))
  unfolding word_at
  taken_word (head_word x) ts us = taken_on both_ok
  taken_word x ts us = taken_stuck

  pub both_word : (ts us : List Symbol) → Both D M ts us (word_at ts) (word_at us)
  unfolding word_at
  both_word = both_first word_at at_end taken_word

  taken_language : (x : Symbol) (ts us : List Symbol) → Taken D M x ts us (language_at (x ∷ ts)) (language_at (x ∷ us))
  unfolding language_at word_at
  taken_language (head_word x) ts us = taken_if (bytes_eq x (codes "C")) (taken_on both_ok) taken_stuck
  taken_language x ts us = taken_stuck

  pub both_language : (ts us : List Symbol) → Both D M ts us (language_at ts) (language_at us)
  unfolding language_at word_at
  both_language = both_first language_at at_end taken_language

  taken_thread_name : (k : ℕ) (x : Symbol) (ts us : List Symbol) → Taken D M x ts us (thread_name_at k (x ∷ ts)) (thread_name_at k (x ∷ us))
  unfolding thread_name_at name_at
  taken_thread_name k (Name x) ts us = taken_if (names_thread x k) (taken_on both_ok) taken_stuck
  taken_thread_name k x ts us = taken_stuck

  pub both_thread_name : (k : ℕ) (ts us : List Symbol) → Both D M ts us (thread_name_at k ts) (thread_name_at k us)
  unfolding thread_name_at name_at
  both_thread_name k = both_first (thread_name_at k) at_end (taken_thread_name k)

  pub both_end : (ts us : List Symbol) → Both D M ts us (end_at ts) (end_at us)
  unfolding end_at
  both_end = both_first end_at (caused_ok tail_here) (λ x ts us. taken_stuck)

  -- Places and the initial state.

  pub both_location : (ts us : List Symbol) → Both D M ts us (location_at ts) (location_at us)
  unfolding location_at
  both_location ts us = both_match _ _ (seen_after LeftBracket ts us) (both_name ts us) (λ y ts us. both_bind _ _ (both_name ts us) (λ x ts us. both_bind _ _ (both_expected RightBracket ts us) (λ z ts us. both_ok)))

  both_register : (k : ℕ) (ts us : List Symbol) → Both D M ts us (register_at k ts) (register_at k us)
  unfolding register_at
  both_register k ts us = both_bind _ _ (both_expected Colon ts us) (λ y ts us. both_bind _ _ (both_name ts us) (λ x ts us. both_ok))

  pub both_place : (ts us : List Symbol) → Both D M ts us (place_at ts) (place_at us)
  unfolding place_at
  both_place ts us = both_match _ _ (seen_number ts us) (both_bind _ _ (both_location ts us) (λ x ts us. both_ok)) (λ k ts us. both_register k ts us)

  both_bare : (p : Place) (ts us : List Symbol) → Both D M ts us (bare p ts) (bare p us)
  unfolding bare
  both_bare (Loc x) ts us = both_ok
  both_bare (Reg k x) ts us = both_stuck

  both_bound : (p : Place) (ts us : List Symbol) → Both D M ts us (bound_at p ts) (bound_at p us)
  unfolding bound_at
  both_bound p ts us = both_match _ _ (seen_after Assign ts us) (both_bare p ts us) (λ y ts us. both_bind _ _ (both_number ts us) (λ v ts us. both_ok))

  both_entry : (ts us : List Symbol) → Both D M ts us (entry_at ts) (entry_at us)
  unfolding entry_at
  both_entry ts us = both_behind (skip_type ts us) (both_bind _ _ (both_place (behind_type ts) (behind_type us)) (λ p ts us. both_bound p ts us))

  both_entry_behind : (bs : List Binding) (ts us : List Symbol) → Both D M ts us (entry_behind bs ts) (entry_behind bs us)
  unfolding entry_behind
  both_entry_behind bs ts us = both_test (ends_entry ts) (ends_entry us) ends_entry_alike both_ok (both_bind _ _ (both_entry ts us) (λ x ts us. both_ok))

  both_entries : (ts us : List Symbol) → Both D M ts us (entries_at ts) (entries_at us)
  unfolding entries_at
  both_entries ts us = both_bind _ _ (both_entry_behind [] ts us) (both_repeated (after Semicolon) (λ _ bs us. entry_behind bs us) (seen_after Semicolon) (λ _ bs ts us. both_entry_behind bs ts us) entries_turn_takes)

  pub both_initial : (ts us : List Symbol) → Both D M ts us (initial_at ts) (initial_at us)
  unfolding initial_at
  both_initial ts us = both_bind _ _ (both_expected LeftBrace ts us) (λ y ts us. both_bind _ _ (both_entries ts us) (λ bs ts us. both_bind _ _ (both_expected RightBrace ts us) (λ z ts us. both_ok)))

  -- Parameters.

  both_kind : (ts us : List Symbol) → Both D M ts us (kind_at ts) (kind_at us)
  unfolding kind_at
  both_kind ts us = both_match _ _ (seen_after AtomicInt ts us) (both_bind _ _ (both_expected Int ts us) (λ y ts us. both_ok)) (λ y ts us. both_ok)

  taken_new_name : (ps : List Parameter) (k : LocationKind) (x : Symbol) (ts us : List Symbol) → Taken D M x ts us (new_name ps k (x ∷ ts)) (new_name ps k (x ∷ us))
  unfolding name_at
  taken_new_name ps k (Name x) ts us = taken_if (is_parameter ps x) taken_stuck (taken_on both_ok)
  taken_new_name ps k x ts us = taken_stuck

  both_new_name : (ps : List Parameter) (k : LocationKind) (ts us : List Symbol) → Both D M ts us (new_name ps k ts) (new_name ps k us)
  unfolding name_at
  both_new_name ps k = both_first (new_name ps k) at_end (taken_new_name ps k)

  both_parameter : (ps : List Parameter) (ts us : List Symbol) → Both D M ts us (parameter_behind ps ts) (parameter_behind ps us)
  unfolding parameter_behind
  both_parameter ps ts us = both_behind (skip_volatile ts us) (both_bind _ _ (both_kind (behind_volatile ts) (behind_volatile us)) (λ k ts us. both_bind _ _ (both_expected Star ts us) (λ z ts us. both_new_name ps k ts us)))

  both_parameters_more : (ps : List Parameter) (ts us : List Symbol) → Both D M ts us (parameters_more ps ts) (parameters_more ps us)
  unfolding parameters_more
  both_parameters_more ps ts us = both_bind _ _ (both_parameter ps ts us) (λ p ts us. both_ok)

  both_parameters : (ts us : List Symbol) → Both D M ts us (parameters_at ts) (parameters_at us)
  unfolding parameters_at
  both_parameters ts us = both_bind _ _ (both_parameters_more [] ts us) (both_repeated (after Comma) (λ _ ps us. parameters_more ps us) (seen_after Comma) (λ _ ps ts us. both_parameters_more ps ts us) parameters_turn_takes)

  pub both_parameters_behind : (ts us : List Symbol) → Both D M ts us (parameters_behind ts) (parameters_behind us)
  unfolding parameters_closed
  both_parameters_behind ts us = both_match _ _ (seen_after RightParen ts us) (both_bind _ _ (both_parameters ts us) (λ ps ts us. both_bind _ _ (both_expected RightParen ts us) (λ y ts us. both_ok))) (λ y ts us. both_ok)

  -- Listed places, and conditions in which nothing nests.

  both_place_behind : (ps : List Place) (ts us : List Symbol) → Both D M ts us (place_behind ps ts) (place_behind ps us)
  unfolding place_behind
  both_place_behind ps ts us = both_test (ends_place ts) (ends_place us) ends_place_alike both_ok (both_bind _ _ (both_place ts us) (λ x ts us. both_ok))

  both_places : (ts us : List Symbol) → Both D M ts us (places_at ts) (places_at us)
  unfolding places_at
  both_places ts us = both_bind _ _ (both_place_behind [] ts us) (both_repeated (after Semicolon) (λ _ ps us. place_behind ps us) (seen_after Semicolon) (λ _ ps ts us. both_place_behind ps ts us) places_turn_takes)

  pub both_listed : (ts us : List Symbol) → Both D M ts us (listed_at ts) (listed_at us)
  unfolding listed_at bracketed_at
  both_listed ts us = both_match _ _ (seen_after Locations ts us) both_ok (λ y ts us. both_bind _ _ (both_expected LeftBracket ts us) (λ x ts us. both_bind _ _ (both_places ts us) (λ ps ts us. both_bind _ _ (both_expected RightBracket ts us) (λ z ts us. both_ok))))

  pub both_equation : (ts us : List Symbol) → Both D M ts us (equation_at ts) (equation_at us)
  unfolding equation_at
  both_equation ts us = both_bind _ _ (both_place ts us) (λ p ts us. both_bind _ _ (both_expected Assign ts us) (λ y ts us. both_bind _ _ (both_number ts us) (λ v ts us. both_ok)))

  pub both_plain_atomic : (ts us : List Symbol) → Both D M ts us (plain_atomic_at ts) (plain_atomic_at us)
  unfolding plain_atomic_at
  both_plain_atomic ts us = both_match _ _ (seen_after True ts us) (both_match _ _ (seen_after False ts us) (both_equation ts us) (λ y ts us. both_ok)) (λ y ts us. both_ok)

  pub both_kind_of : (ts us : List Symbol) → Both D M ts us (kind_of_at ts) (kind_of_at us)
  unfolding kind_of_at
  both_kind_of ts us = both_match _ _ (seen_after Forall ts us)
      (both_match _ _ (seen_denial ts us) (both_bind _ _ (both_expected Exists ts us) (λ y ts us. both_ok)) (λ x ts us. both_bind _ _ (both_expected Exists ts us) (λ y ts us. both_ok)))
      (λ y ts us. both_ok)

-- Orders.
module _ {D : Type 0} where
  taken_named : {x : Symbol} {ts us : List Symbol} (os : List Order) (o : Option Order) →
      Taken {A = Order} D Any x ts us (required (syntax (suc (length ts))) o >>= λ p. if is_among os p then Ok (p, ts) else Err misordered) (required (syntax (suc (length us))) o >>= λ p. if is_among os p then Ok (p, us) else Err misordered)
  taken_named os None = taken_stuck
  taken_named os (Some p) = taken_if (is_among os p) (taken_on both_ok) (taken_on (both_misordered tt))

  taken_order : (os : List Order) (x : Symbol) (ts us : List Symbol) → Taken D Any x ts us (order_at os (x ∷ ts)) (order_at os (x ∷ us))
  unfolding order_at name_at
  taken_order os (Name x) ts us = taken_named os (looked_up orders x)
  taken_order os x ts us = taken_stuck

  both_order : (os : List Order) (ts us : List Symbol) → Both D Any ts us (order_at os ts) (order_at os us)
  unfolding order_at name_at
  both_order os = both_first (order_at os) at_end (taken_order os)

  pub both_last_order : (os : List Order) (ts us : List Symbol) → Both D Any ts us (last_order_at os ts) (last_order_at os us)
  unfolding last_order_at
  both_last_order os ts us = both_bind _ _ (both_order os ts us) (λ o ts us. both_bind _ _ (both_expected RightParen ts us) (λ y ts us. both_ok))

  pub both_closing : (os : List Order) (ts us : List Symbol) → Both D Any ts us (closing_at os ts) (closing_at os us)
  unfolding closing_at
  both_closing os ts us = both_if (length os == 0) (both_bind _ _ (both_expected RightParen ts us) (λ y ts us. both_ok)) (both_bind _ _ (both_expected Comma ts us) (λ y ts us. both_last_order os ts us))
