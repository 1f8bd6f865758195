-- The grammar of C litmus tests. (herd7 manual, C litmus tests; the calls and orders of ISO/IEC 9899:2011, 7.17.)
-- IsX n ts rest a says that the symbols ts begin with the X a, which nests at most n deep, and that the symbols
-- rest follow it. Each of these nests one deeper than what it stands in: the inside of parentheses and of a block,
-- the operand of `!`, `~` and `not`, an arm of an `if`, and the right side of `=>`.
use Rattle.std.specs.Prelude.{◌≡◌, ◌≢◌, ℕ, List, [], ◌∷◌, ◌++◌, length, Some, None, codes}
use Rattle.std.specs.Fmt.{decimal}
use Rattle.std.proofs.Common.{zero, suc}
use Rattle.listings.specs.Lists.{IsIn}
use Rattle.events.specs.declared.event.Order.{Order}
use Rattle.events.specs.declared.event.Order.TheVariants.{Sc}
use Rattle.conditions.specs.declared.place.Binding.{Binding}
use Rattle.conditions.specs.declared.place.Place.{Place}
use Rattle.conditions.specs.declared.place.Place.TheVariants.{Reg, Loc}
use Rattle.conditions.specs.declared.condition.Kind.{Kind}
use Rattle.conditions.specs.declared.condition.Kind.TheVariants as kinds
use Rattle.conditions.specs.Conditions.{Formula, truth, falsehood, equals, negation, conjunction, disjunction, implication, Condition}
use Rattle.litmus_tree.specs.declared.expression.Operator.{Operator}
use Rattle.litmus_tree.specs.declared.expression.Operator.TheVariants as operators
use Rattle.litmus_syntax.specs.declared.atomics.Operation.{Operation}
use Rattle.litmus_syntax.specs.declared.symbol.Symbol.{Symbol}
use Rattle.litmus_syntax.specs.declared.symbol.Symbol.TheVariants.{Fixed, Call, Name, Number, Word as head_word}
use Rattle.litmus_syntax.specs.declared.symbol.Terminal.{Terminal}
use Rattle.litmus_syntax.specs.declared.symbol.Terminal.TheVariants.{Int, AtomicInt, Volatile, If, Else, True, False, Exists, Forall, Not, Locations, LeftParen, RightParen, LeftBrace, RightBrace, LeftBracket, RightBracket, Semicolon, Colon, Comma, Assign, Star, Tilde, Bang, EqualEqual, BangEqual, AndAnd, OrOr, And, Or, Arrow}
use Rattle.litmus_tree.specs.declared.tree.Computation.{Computation}
use Rattle.litmus_tree.specs.declared.tree.LocationKind.{LocationKind}
use Rattle.litmus_tree.specs.declared.tree.LocationKind.TheVariants.{Atomic, Plain}
use Rattle.litmus_tree.specs.declared.tree.Parameter.{Parameter}
use Rattle.litmus_syntax.specs.Atomics.{orders, effect_of, accepted}
use Rattle.litmus_syntax.specs.declared.atomics.Effect.TheVariants.{Loads, Stores, Exchanges, Modifies, Fences}
use Rattle.litmus_syntax.specs.Drafts.{Listing, Written}
use Rattle.litmus_syntax.specs.Symbols.{looked_up}
use Rattle.litmus_tree.specs.Tree.{Word, Term, number, held, denied, Action, load, store, exchange, modify, fence, Right, computed, plain_read, value_of, Declared, Step, empty, block, declare, assign, plain_write, perform, if_only, if_else, Steps, no_steps, followed, joined}

-- Places and the initial state.

-- location := name | "[" name "]"
pub data IsLocation : List Symbol → List Symbol → Word → Type 0 where
  location_name : {x : Word} {rest : List Symbol} → IsLocation (Name x ∷ rest) rest x
  location_bracket : {x : Word} {rest : List Symbol} → IsLocation (Fixed LeftBracket ∷ Name x ∷ Fixed RightBracket ∷ rest) rest x

-- place := number ":" name | location
pub data IsPlace : List Symbol → List Symbol → Place → Type 0 where
  place_register : {k : ℕ} {x : Word} {rest : List Symbol} → IsPlace (Number k ∷ Fixed Colon ∷ Name x ∷ rest) rest (Reg k x)
  place_location : {ts rest : List Symbol} {x : Word} → IsLocation ts rest x → IsPlace ts rest (Loc x)

-- type := "int" | "atomic_int"
pub data IsType : Terminal → Type 0 where
  type_int : IsType Int
  type_atomic : IsType AtomicInt

-- untyped := location | place "=" number
pub data IsUntyped : List Symbol → List Symbol → Binding → Type 0 where
  untyped_zero : {ts rest : List Symbol} {x : Word} → IsLocation ts rest x → IsUntyped ts rest (record { place = Loc x; value = 0 })
  untyped_value : {ts rest : List Symbol} {p : Place} {v : ℕ} → IsPlace ts (Fixed Assign ∷ Number v ∷ rest) p → IsUntyped ts rest (record { place = p; value = v })

-- entry := [type] untyped
pub data IsEntry : List Symbol → List Symbol → Binding → Type 0 where
  entry_untyped : {ts rest : List Symbol} {b : Binding} → IsUntyped ts rest b → IsEntry ts rest b
  entry_typed : {t : Terminal} {ts rest : List Symbol} {b : Binding} → IsType t → IsUntyped ts rest b → IsEntry (Fixed t ∷ ts) rest b

-- entries := [entry] | entries ";" [entry]
pub data IsEntries : List Symbol → List Symbol → List Binding → Type 0 where
  entries_none : {ts : List Symbol} → IsEntries ts ts []
  entries_one : {ts rest : List Symbol} {b : Binding} → IsEntry ts rest b → IsEntries ts rest (b ∷ [])
  entries_empty : {ts rest : List Symbol} {bs : List Binding} → IsEntries ts (Fixed Semicolon ∷ rest) bs → IsEntries ts rest bs
  entries_more : {ts mid rest : List Symbol} {bs : List Binding} {b : Binding} → IsEntries ts (Fixed Semicolon ∷ mid) bs → IsEntry mid rest b → IsEntries ts rest (bs ++ b ∷ [])

-- Parameters.

-- how the type that a parameter points to lets its location be accessed
pub data HasKind : Terminal → LocationKind → Type 0 where
  kind_atomic : HasKind AtomicInt Atomic
  kind_plain : HasKind Int Plain

-- parameter := ["volatile"] type "*" name
pub data IsParameter : List Symbol → List Symbol → Parameter → Type 0 where
  parameter_typed : {t : Terminal} {k : LocationKind} {x : Word} {rest : List Symbol} → HasKind t k →
      IsParameter (Fixed t ∷ Fixed Star ∷ Name x ∷ rest) rest (record { name = x; kind = k })
  parameter_volatile : {t : Terminal} {k : LocationKind} {x : Word} {rest : List Symbol} → HasKind t k →
      IsParameter (Fixed Volatile ∷ Fixed t ∷ Fixed Star ∷ Name x ∷ rest) rest (record { name = x; kind = k })

-- no earlier parameter has this name
abbrev pub IsNew : Parameter → List Parameter → Type 0
IsNew p ps = (q : Parameter) → IsIn q ps → ¬ (q.name ≡ p.name)

-- parameters := parameter | parameters "," parameter, no two of one name
pub data IsParameters : List Symbol → List Symbol → List Parameter → Type 0 where
  parameters_one : {ts rest : List Symbol} {p : Parameter} → IsParameter ts rest p → IsParameters ts rest (p ∷ [])
  parameters_more : {ts mid rest : List Symbol} {ps : List Parameter} {p : Parameter} → IsParameters ts (Fixed Comma ∷ mid) ps → IsParameter mid rest p → IsNew p ps → IsParameters ts rest (ps ++ p ∷ [])

-- "(" [parameters] ")"
pub data IsParameterList : ℕ → List Symbol → List Symbol → List Parameter → Type 0 where
  list_none : {n : ℕ} {rest : List Symbol} → IsParameterList (suc n) (Fixed LeftParen ∷ Fixed RightParen ∷ rest) rest []
  list_some : {n : ℕ} {ts rest : List Symbol} {ps : List Parameter} → IsParameters ts (Fixed RightParen ∷ rest) ps → IsParameterList (suc n) (Fixed LeftParen ∷ ts) rest ps

-- Expressions.

-- the operators of each level, the tightest first; all associate to the left
pub data Joins : ℕ → Terminal → Operator → Type 0 where
  joins_equal : Joins 0 EqualEqual operators.Equal
  joins_unequal : Joins 0 BangEqual operators.Unequal
  joins_both : Joins 1 AndAnd operators.Both
  joins_either : Joins 2 OrOr operators.Either

mutual
  -- level 0 := unary; level k + 1 := level k | level (k + 1) sign level k, with a sign of level k
  pub data IsLevel : ℕ → ℕ → List Symbol → List Symbol → Term → Type 0 where
    level_unary : {n : ℕ} {ts rest : List Symbol} {a : Term} → IsUnary n ts rest a → IsLevel zero n ts rest a
    level_tighter : {k n : ℕ} {ts rest : List Symbol} {a : Term} → IsLevel k n ts rest a → IsLevel (suc k) n ts rest a
    level_joined : {k n : ℕ} {ts mid rest : List Symbol} {t : Terminal} {o : Operator} {a b : Term} → IsLevel (suc k) n ts (Fixed t ∷ mid) a → Joins k t o → IsLevel k n mid rest b → IsLevel (suc k) n ts rest (joined o a b)

  -- unary := "!" unary | "(" expression ")" | name | number
  pub data IsUnary : ℕ → List Symbol → List Symbol → Term → Type 0 where
    unary_denied : {n : ℕ} {ts rest : List Symbol} {a : Term} → IsUnary n ts rest a → IsUnary (suc n) (Fixed Bang ∷ ts) rest (denied a)
    unary_paren : {n : ℕ} {ts rest : List Symbol} {a : Term} → IsLevel 3 n ts (Fixed RightParen ∷ rest) a → IsUnary (suc n) (Fixed LeftParen ∷ ts) rest a
    unary_name : {n : ℕ} {r : Word} {rest : List Symbol} → IsUnary n (Name r ∷ rest) rest (held r)
    unary_number : {n v : ℕ} {rest : List Symbol} → IsUnary n (Number v ∷ rest) rest (number v)

-- expression := level 3
abbrev pub IsExpression : ℕ → List Symbol → List Symbol → Term → Type 0
IsExpression n ts rest a = IsLevel 3 n ts rest a

-- Calls. Each is a row of specs/Atomics.antt.

-- w names the order o
abbrev pub IsOrder : Word → Order → Type 0
IsOrder w o = looked_up orders w ≡ Some o

-- order ")", with an order of these
pub data IsLastOrder (os : List Order) : List Symbol → List Symbol → Order → Type 0 where
  last_order : {w : Word} {o : Order} {rest : List Symbol} → IsOrder w o → IsIn o os → IsLastOrder os (Name w ∷ Fixed RightParen ∷ rest) rest o

-- the end of a call that takes these orders: ")" where it takes none, and its order is sc, or "," order ")"
pub data IsClosing : List Order → List Symbol → List Symbol → Order → Type 0 where
  closing_sc : {rest : List Symbol} → IsClosing [] (Fixed RightParen ∷ rest) rest Sc
  closing_order : {os : List Order} {o : Order} {ts rest : List Symbol} → IsLastOrder os ts rest o → IsClosing os (Fixed Comma ∷ ts) rest o

-- a call: its word, and in parentheses its location and its value or its number, by what it does, and its order
pub data IsCall : ℕ → List Symbol → List Symbol → Action → Type 0 where
  call_load : {n : ℕ} {c : Operation} {x : Word} {o : Order} {ts rest : List Symbol} → effect_of c ≡ Loads → IsClosing (accepted c) ts rest o →
      IsCall (suc n) (Call c ∷ Fixed LeftParen ∷ Name x ∷ ts) rest (load x o)
  call_store : {n : ℕ} {c : Operation} {x : Word} {e : Term} {o : Order} {ts us rest : List Symbol} → effect_of c ≡ Stores → IsExpression n ts us e → IsClosing (accepted c) us rest o →
      IsCall (suc n) (Call c ∷ Fixed LeftParen ∷ Name x ∷ Fixed Comma ∷ ts) rest (store x e o)
  call_exchange : {n : ℕ} {c : Operation} {x : Word} {e : Term} {o : Order} {ts us rest : List Symbol} → effect_of c ≡ Exchanges → IsExpression n ts us e → IsClosing (accepted c) us rest o →
      IsCall (suc n) (Call c ∷ Fixed LeftParen ∷ Name x ∷ Fixed Comma ∷ ts) rest (exchange x e o)
  call_modify : {n v : ℕ} {c : Operation} {f : Computation} {x : Word} {o : Order} {ts rest : List Symbol} → effect_of c ≡ Modifies f → IsClosing (accepted c) ts rest o →
      IsCall (suc n) (Call c ∷ Fixed LeftParen ∷ Name x ∷ Fixed Comma ∷ Number v ∷ ts) rest (modify x f v o)
  call_fence : {n : ℕ} {c : Operation} {o : Order} {ts rest : List Symbol} → effect_of c ≡ Fences → IsLastOrder (accepted c) ts rest o →
      IsCall (suc n) (Call c ∷ Fixed LeftParen ∷ ts) rest (fence o)

-- the calls that have a value
pub data HasValue : Action → Type 0 where
  load_has : {x : Word} {o : Order} → HasValue (load x o)
  exchange_has : {x : Word} {e : Term} {o : Order} → HasValue (exchange x e o)
  modify_has : {x : Word} {f : Computation} {v : ℕ} {o : Order} → HasValue (modify x f v o)

-- right := expression | "*" name | call that has a value
pub data IsRight : ℕ → List Symbol → List Symbol → Right → Type 0 where
  right_computed : {n : ℕ} {ts rest : List Symbol} {e : Term} → IsExpression n ts rest e → IsRight n ts rest (computed e)
  right_read : {n : ℕ} {x : Word} {rest : List Symbol} → IsRight n (Fixed Star ∷ Name x ∷ rest) rest (plain_read x)
  right_call : {n : ℕ} {ts rest : List Symbol} {a : Action} → IsCall n ts rest a → HasValue a → IsRight n ts rest (value_of a)

-- Statements.

-- declarator := name ["=" right]
pub data IsDeclarator : ℕ → List Symbol → List Symbol → Declared → Type 0 where
  declarator_bare : {n : ℕ} {r : Word} {rest : List Symbol} → IsDeclarator n (Name r ∷ rest) rest (record { register = r; value = None })
  declarator_value : {n : ℕ} {r : Word} {ts rest : List Symbol} {v : Right} → IsRight n ts rest v → IsDeclarator n (Name r ∷ Fixed Assign ∷ ts) rest (record { register = r; value = Some v })

-- declarators := declarator | declarators "," declarator
pub data IsDeclarators : ℕ → List Symbol → List Symbol → List Declared → Type 0 where
  declarators_one : {n : ℕ} {ts rest : List Symbol} {d : Declared} → IsDeclarator n ts rest d → IsDeclarators n ts rest (d ∷ [])
  declarators_more : {n : ℕ} {ts mid rest : List Symbol} {ds : List Declared} {d : Declared} → IsDeclarators n ts (Fixed Comma ∷ mid) ds → IsDeclarator n mid rest d → IsDeclarators n ts rest (ds ++ d ∷ [])

-- simple := "int" declarators | name "=" right | "*" name "=" expression | call
pub data IsSimple : ℕ → List Symbol → List Symbol → Step → Type 0 where
  simple_declare : {n : ℕ} {ts rest : List Symbol} {ds : List Declared} → IsDeclarators n ts rest ds → IsSimple n (Fixed Int ∷ ts) rest (declare ds)
  simple_assign : {n : ℕ} {r : Word} {ts rest : List Symbol} {v : Right} → IsRight n ts rest v → IsSimple n (Name r ∷ Fixed Assign ∷ ts) rest (assign r v)
  simple_write : {n : ℕ} {x : Word} {ts rest : List Symbol} {e : Term} → IsExpression n ts rest e → IsSimple n (Fixed Star ∷ Name x ∷ Fixed Assign ∷ ts) rest (plain_write x e)
  simple_perform : {n : ℕ} {ts rest : List Symbol} {a : Action} → IsCall n ts rest a → IsSimple n ts rest (perform a)

-- t does not come next
abbrev pub NotNext : Terminal → List Symbol → Type 0
NotNext t ts = (rest : List Symbol) → ts ≢ Fixed t ∷ rest

mutual
  -- statement := ";" | "{" statements "}" | simple ";" | "if" "(" expression ")" statement ["else" statement]
  -- An else belongs to the nearest if: no else stands behind an if without one.
  pub data IsStep : ℕ → List Symbol → List Symbol → Step → Type 0 where
    step_empty : {n : ℕ} {rest : List Symbol} → IsStep n (Fixed Semicolon ∷ rest) rest empty
    step_block : {n : ℕ} {ts rest : List Symbol} {ss : Steps} → IsSteps n ts (Fixed RightBrace ∷ rest) ss → IsStep (suc n) (Fixed LeftBrace ∷ ts) rest (block ss)
    step_simple : {n : ℕ} {ts rest : List Symbol} {s : Step} → IsSimple n ts (Fixed Semicolon ∷ rest) s → IsStep n ts rest s
    step_if : {n : ℕ} {ts mid rest : List Symbol} {c : Term} {a : Step} → IsExpression n ts (Fixed RightParen ∷ mid) c → IsStep n mid rest a → NotNext Else rest →
        IsStep (suc n) (Fixed If ∷ Fixed LeftParen ∷ ts) rest (if_only c a)
    step_else : {n : ℕ} {ts mid more rest : List Symbol} {c : Term} {a b : Step} → IsExpression n ts (Fixed RightParen ∷ mid) c → IsStep n mid (Fixed Else ∷ more) a → IsStep n more rest b →
        IsStep (suc n) (Fixed If ∷ Fixed LeftParen ∷ ts) rest (if_else c a b)

  -- statements := nothing | statements statement
  pub data IsSteps : ℕ → List Symbol → List Symbol → Steps → Type 0 where
    steps_none : {n : ℕ} {ts : List Symbol} → IsSteps n ts ts no_steps
    steps_more : {n : ℕ} {ts mid rest : List Symbol} {ss : Steps} {s : Step} → IsSteps n ts mid ss → IsStep n mid rest s → IsSteps n ts rest (followed ss s)

-- Threads.

-- thread k := "P" k "(" [parameters] ")" "{" statements "}"
pub data IsThread : ℕ → ℕ → List Symbol → List Symbol → Listing → Type 0 where
  thread_body : {n k : ℕ} {ts us rest : List Symbol} {ps : List Parameter} {ss : Steps} →
      IsParameterList n ts (Fixed LeftBrace ∷ us) ps → IsSteps n us (Fixed RightBrace ∷ rest) ss →
      IsThread n k (Name (codes "P" ++ decimal k) ∷ ts) rest (record { parameters = ps; steps = ss })

-- threads := thread 0 | threads and the thread of the next number
pub data IsThreads : ℕ → List Symbol → List Symbol → List Listing → Type 0 where
  threads_one : {n : ℕ} {ts rest : List Symbol} {b : Listing} → IsThread n 0 ts rest b → IsThreads n ts rest (b ∷ [])
  threads_more : {n : ℕ} {ts mid rest : List Symbol} {bs : List Listing} {b : Listing} → IsThreads n ts mid bs → IsThread n (length bs) mid rest b → IsThreads n ts rest (bs ++ b ∷ [])

-- Listed places.

-- places := [place] | places ";" [place]
pub data IsPlaces : List Symbol → List Symbol → List Place → Type 0 where
  places_none : {ts : List Symbol} → IsPlaces ts ts []
  places_one : {ts rest : List Symbol} {p : Place} → IsPlace ts rest p → IsPlaces ts rest (p ∷ [])
  places_empty : {ts rest : List Symbol} {ps : List Place} → IsPlaces ts (Fixed Semicolon ∷ rest) ps → IsPlaces ts rest ps
  places_more : {ts mid rest : List Symbol} {ps : List Place} {p : Place} → IsPlaces ts (Fixed Semicolon ∷ mid) ps → IsPlace mid rest p → IsPlaces ts rest (ps ++ p ∷ [])

-- listed := nothing | "locations" "[" places "]"
pub data IsListed : List Symbol → List Symbol → List Place → Type 0 where
  listed_none : {ts : List Symbol} → IsListed ts ts []
  listed_some : {ts rest : List Symbol} {ps : List Place} → IsPlaces ts (Fixed RightBracket ∷ rest) ps → IsListed (Fixed Locations ∷ Fixed LeftBracket ∷ ts) rest ps

-- Conditions.

-- "~" or "not"
pub data Denies : Terminal → Type 0 where
  denies_tilde : Denies Tilde
  denies_not : Denies Not

mutual
  -- proposition := or | or "=>" proposition
  pub data IsProposition : ℕ → List Symbol → List Symbol → Formula → Type 0 where
    proposition_or : {n : ℕ} {ts rest : List Symbol} {a : Formula} → IsOr n ts rest a → IsProposition n ts rest a
    proposition_implies : {n : ℕ} {ts mid rest : List Symbol} {a b : Formula} → IsOr (suc n) ts (Fixed Arrow ∷ mid) a → IsProposition n mid rest b → IsProposition (suc n) ts rest (implication a b)

  -- or := conjunction | or "\/" conjunction
  pub data IsOr : ℕ → List Symbol → List Symbol → Formula → Type 0 where
    or_conjunction : {n : ℕ} {ts rest : List Symbol} {a : Formula} → IsConjunction n ts rest a → IsOr n ts rest a
    or_or : {n : ℕ} {ts mid rest : List Symbol} {a b : Formula} → IsOr n ts (Fixed Or ∷ mid) a → IsConjunction n mid rest b → IsOr n ts rest (disjunction a b)

  -- conjunction := atomic | conjunction "/\" atomic
  pub data IsConjunction : ℕ → List Symbol → List Symbol → Formula → Type 0 where
    conjunction_atomic : {n : ℕ} {ts rest : List Symbol} {a : Formula} → IsAtomic n ts rest a → IsConjunction n ts rest a
    conjunction_and : {n : ℕ} {ts mid rest : List Symbol} {a b : Formula} → IsConjunction n ts (Fixed And ∷ mid) a → IsAtomic n mid rest b → IsConjunction n ts rest (conjunction a b)

  -- atomic := ("~" | "not") atomic | "(" proposition ")" | "true" | "false" | place "=" number
  pub data IsAtomic : ℕ → List Symbol → List Symbol → Formula → Type 0 where
    atomic_denied : {n : ℕ} {t : Terminal} {ts rest : List Symbol} {a : Formula} → Denies t → IsAtomic n ts rest a → IsAtomic (suc n) (Fixed t ∷ ts) rest (negation a)
    atomic_paren : {n : ℕ} {ts rest : List Symbol} {a : Formula} → IsProposition n ts (Fixed RightParen ∷ rest) a → IsAtomic (suc n) (Fixed LeftParen ∷ ts) rest a
    atomic_true : {n : ℕ} {rest : List Symbol} → IsAtomic n (Fixed True ∷ rest) rest truth
    atomic_false : {n : ℕ} {rest : List Symbol} → IsAtomic n (Fixed False ∷ rest) rest falsehood
    atomic_equals : {n v : ℕ} {ts rest : List Symbol} {p : Place} → IsPlace ts (Fixed Assign ∷ Number v ∷ rest) p → IsAtomic n ts rest (equals p v)

-- kind := "exists" | ("~" | "not") "exists" | "forall"
pub data IsKind : List Symbol → List Symbol → Kind → Type 0 where
  kind_exists : {rest : List Symbol} → IsKind (Fixed Exists ∷ rest) rest kinds.Exists
  kind_not_exists : {t : Terminal} {rest : List Symbol} → Denies t → IsKind (Fixed t ∷ Fixed Exists ∷ rest) rest kinds.NotExists
  kind_forall : {rest : List Symbol} → IsKind (Fixed Forall ∷ rest) rest kinds.Forall

-- condition := kind proposition
pub data IsCondition : ℕ → List Symbol → List Symbol → Condition → Type 0 where
  condition_of : {n : ℕ} {ts mid rest : List Symbol} {k : Kind} {a : Formula} → IsKind ts mid k → IsProposition n mid rest a → IsCondition n ts rest (record { kind = k; formula = a })

-- Tests.

-- test := "C" name "{" entries "}" threads listed condition
pub data IsWritten : ℕ → List Symbol → List Symbol → Written → Type 0 where
  written : {n : ℕ} {x : Word} {ts us vs ws rest : List Symbol} {bs : List Binding} {ls : List Listing} {ps : List Place} {c : Condition} →
      IsEntries ts (Fixed RightBrace ∷ us) bs → IsThreads n us vs ls → IsListed vs ws ps → IsCondition n ws rest c →
      IsWritten n (head_word (codes "C") ∷ head_word x ∷ Fixed LeftBrace ∷ ts) rest (record { name = x; entries = bs; threads = ls; listed = ps; condition = c })

-- The whole of the symbols is the test, which nests at most 32 deep.
abbrev pub Spells : List Symbol → Written → Type 0
Spells ts w = IsWritten 32 ts [] w
