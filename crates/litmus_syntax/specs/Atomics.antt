-- The calls of C's atomics that a test has, and their orders. (ISO/IEC 9899:2011, 7.17.7, 7.17.4 and 7.17.3.)
use Rattle.std.specs.Prelude.{◌≡◌, ◌≢◌, List, [], ◌∷◌, map, Bool, true, false, codes}
use Rattle.events.specs.declared.event.Order.{Order}
use Rattle.events.specs.declared.event.Order.TheVariants.{Rlx, Acq, Rel, AcqRel, Sc}
use Rattle.litmus_syntax.specs.declared.atomics.Effect.{Effect}
use Rattle.litmus_syntax.specs.declared.atomics.Effect.TheVariants.{Loads, Stores, Exchanges, Modifies, Fences}
use Rattle.litmus_syntax.specs.declared.atomics.Operation.{Operation}
use Rattle.litmus_syntax.specs.declared.atomics.Operation.TheVariants.{Load, LoadExplicit, Store, StoreExplicit, Exchange, ExchangeExplicit, FetchAdd, FetchAddExplicit, Fence}
use Rattle.litmus_tree.specs.declared.tree.Computation.TheVariants.{Addition}
use Rattle.litmus_tree.specs.Tree.{Word}

-- the orders, without consume
abbrev pub orders : List (Word × Order)
orders =
    (codes "memory_order_relaxed", Rlx) ∷ (codes "memory_order_acquire", Acq) ∷ (codes "memory_order_release", Rel) ∷
    (codes "memory_order_acq_rel", AcqRel) ∷ (codes "memory_order_seq_cst", Sc) ∷ []

abbrev pub all_orders : List Order
all_orders = map (λ r. r.1) orders

-- A call: its word, what it does, and the orders that it takes as its last argument. One that takes none has no such
-- argument, and its order is sc. Modifies f: it reads, and writes what f makes of the value read and of its second argument.
pub record Row : Type 0 where
  pub word : Word
  pub does : Effect
  pub takes : List Order

abbrev pub row : Operation → Row
row Load = record { word = codes "atomic_load"; does = Loads; takes = [] }
row LoadExplicit = record { word = codes "atomic_load_explicit"; does = Loads; takes = Rlx ∷ Acq ∷ Sc ∷ [] }
row Store = record { word = codes "atomic_store"; does = Stores; takes = [] }
row StoreExplicit = record { word = codes "atomic_store_explicit"; does = Stores; takes = Rlx ∷ Rel ∷ Sc ∷ [] }
row Exchange = record { word = codes "atomic_exchange"; does = Exchanges; takes = [] }
row ExchangeExplicit = record { word = codes "atomic_exchange_explicit"; does = Exchanges; takes = all_orders }
row FetchAdd = record { word = codes "atomic_fetch_add"; does = Modifies Addition; takes = [] }
row FetchAddExplicit = record { word = codes "atomic_fetch_add_explicit"; does = Modifies Addition; takes = all_orders }
row Fence = record { word = codes "atomic_thread_fence"; does = Fences; takes = all_orders }

-- the call of each word
abbrev pub calls : List (Word × Operation)
calls = map (λ c. ((row c).word, c)) (Load ∷ LoadExplicit ∷ Store ∷ StoreExplicit ∷ Exchange ∷ ExchangeExplicit ∷ FetchAdd ∷ FetchAddExplicit ∷ Fence ∷ [])

abbrev pub effect_of : Operation → Effect
effect_of c = (row c).does

abbrev pub accepted : Operation → List Order
accepted c = (row c).takes

-- its last argument is an order
abbrev pub TakesOrder : Operation → Type 0
TakesOrder c = accepted c ≢ []

-- it takes a value, as its second argument
pub data TakesValue : Operation → Type 0 where
  store_takes : {c : Operation} → effect_of c ≡ Stores → TakesValue c
  exchange_takes : {c : Operation} → effect_of c ≡ Exchanges → TakesValue c

-- what reads has a value
abbrev pub is_valued : Effect → Bool
is_valued Loads = true
is_valued Stores = false
is_valued Exchanges = true
is_valued (Modifies f) = true
is_valued Fences = false

abbrev pub has_value : Operation → Bool
has_value c = is_valued (effect_of c)
