-- What is known at the depths that are listed so far, and at those that are left.
use Rattle.std.proofs.Common.{◌≡◌, ℕ, zero, suc, ◌+◌, ◌-◌, ◌*◌, ◌<◌, ◌≤◌, List, [], ◌∷◌, ◌++◌, append_assoc, append-nil, length, map, drop, drop-cons, get_or, add-one, Bool, true, false, nat_lt, if◌then◌else◌, refl, sym, ◌∙◌, ap, arith}
use Rattle.std.proofs.lemmas.List.{map-append, drop_all}
use Rattle.std.proofs.lemmas.List.Elements.{filter-append, All-head, All-push, All-tail}
use Rattle.std.specs.List.{All, filter}
use Rattle.events.specs.declared.event.Event.{Event}
use Rattle.events.specs.Executions.{ThreadRun}
use Rattle.candidates.specs.declared.depths.Depth.{Depth}
use Rattle.candidates.specs.declared.depths.Known.{Known}
use Rattle.candidates.specs.declared.depths.Known.TheVariants.{Sources, Orders}
use Rattle.candidates.specs.Blocks.{IsDepth}
use Rattle.candidates.specs.Depths.{before_reads, by_places, by_locations, depth_of, depths_of, is_open, known_of}
use Rattle.candidates.specs.Executions.{later_writes, reads, upto}
use Rattle.candidates.specs.Candidates.{count_co, count_orders, count_sources}
use Rattle.listings.specs.Lists.{product_by}
use Rattle.std.proofs.Math.Nat.{mul-one}
use Rattle.candidates.proofs.Sizes.{reading_depth}

-- A depth more, if it is wanted.
one_more : (old new : List Depth) (d : Depth) (b : Bool) (more all : List Known) → new ≡ (if b then old ++ d ∷ [] else old) → known_of old ++ (if b then d.known ∷ more else more) ≡ all → known_of new ++ more ≡ all
one_more old new d true more all e h =
    ap (λ ds. known_of ds ++ more) e ∙ ap (λ ks. ks ++ more) (map-append (λ (x : Depth). x.known) old (d ∷ [])) ∙ append_assoc (known_of old) (d.known ∷ []) more ∙ h
one_more old new d false more all e h = ap (λ ds. known_of ds ++ more) e ∙ h

pub reading_more : (runs : List ThreadRun) (rs : List Event) (i size : ℕ) (r : Event) (many : ℕ) (old new : List Depth) (all : List Known) → i < length rs → r ≡ get_or rs i r → many ≡ length (later_writes runs r.loc) →
    new ≡ (if nat_lt 0 many then old ++ record { size = size; known = Sources i } ∷ [] else old) → known_of old ++ before_reads runs i (drop i rs) ≡ all → known_of new ++ before_reads runs (i + 1) (drop (i + 1) rs) ≡ all
reading_more runs rs i size r many old new all l is m e h =
    let d : Depth = record { size = size; known = Sources i } in
    let next : drop i rs ≡ r ∷ drop (i + 1) rs = (rw (add-one, drop-cons rs i r) refl) ∙ ap (λ (x : Event). x ∷ drop (i + 1) rs) (sym is) in
    one_more old new d (nat_lt 0 many) (before_reads runs (i + 1) (drop (i + 1) rs)) all e
    (ap (λ k. known_of old ++ (if nat_lt 0 k then Sources i ∷ before_reads runs (i + 1) (drop (i + 1) rs) else before_reads runs (i + 1) (drop (i + 1) rs))) m
    ∙ ap (λ es. known_of old ++ before_reads runs i es) (sym next) ∙ h)

pub reading_end : (runs : List ThreadRun) (rs : List Event) (i : ℕ) (now : List Depth) (all : List Known) → length rs ≤ i → known_of now ++ before_reads runs i (drop i rs) ≡ all → known_of now ≡ all
reading_end runs rs i now all l h = sym (append-nil (known_of now)) ∙ ap (λ es. known_of now ++ before_reads runs i es) (sym (drop_all i rs l)) ∙ h

pub open_more : (n : ℕ) (runs : List ThreadRun) (old new : List Depth) (d : Depth) (more all : List Known) → IsDepth n runs d → new ≡ (if nat_lt 1 d.size then old ++ d ∷ [] else old) → known_of old ++ filter (is_open n runs) (d.known ∷ more) ≡ all → known_of new ++ filter (is_open n runs) more ≡ all
open_more n runs old new d more all k e h =
    let rest = filter (is_open n runs) more in
    one_more old new d (nat_lt 1 d.size) rest all e (ap (λ z. known_of old ++ (if nat_lt 1 z then d.known ∷ rest else rest)) k.size ∙ h)

pub placing_more : (n : ℕ) (runs : List ThreadRun) (old new : List Depth) (d : Depth) (x k m : ℕ) (all : List Known) → m ≡ k + 1 → IsDepth n runs d → d.known ≡ Orders (record { locations = x; writes = k }) → new ≡ (if nat_lt 1 d.size then old ++ d ∷ [] else old) →
    known_of old ++ filter (is_open n runs) (by_places x m) ≡ all → known_of new ++ filter (is_open n runs) (by_places x k) ≡ all
placing_more n runs old new d x k m all one p is e h =
    let s : m ≡ suc k = omega (arith, one) in
    open_more n runs old new d (by_places x k) all p e (ap (λ z. known_of old ++ filter (is_open n runs) (z ∷ by_places x k)) is ∙ ap (λ z. known_of old ++ filter (is_open n runs) (by_places x z)) (sym s) ∙ h)

pub placing_end : (n : ℕ) (runs : List ThreadRun) (now : List Depth) (x m : ℕ) (all : List Known) → m ≡ 0 → known_of now ++ filter (is_open n runs) (by_places x m) ≡ all → known_of now ≡ all
placing_end n runs now x m all z h = sym (append-nil (known_of now)) ∙ ap (λ k. known_of now ++ filter (is_open n runs) (by_places x k)) (sym z) ∙ h

pub location_more : (n : ℕ) (runs : List ThreadRun) (old new : List Depth) (x m : ℕ) (all : List Known) → m ≡ x + 1 → known_of new ≡ known_of old ++ filter (is_open n runs) (by_places x (length (later_writes runs x) - 1)) →
    known_of old ++ filter (is_open n runs) (by_locations runs m) ≡ all → known_of new ++ filter (is_open n runs) (by_locations runs x) ≡ all
location_more n runs old new x m all one e h =
    let s : m ≡ suc x = omega (arith, one) in
    let p = is_open n runs in
    let here = by_places x (length (later_writes runs x) - 1) in
    ap (λ ks. ks ++ filter p (by_locations runs x)) e ∙ append_assoc (known_of old) (filter p here) (filter p (by_locations runs x))
    ∙ ap (λ ks. known_of old ++ ks) (sym (filter-append p here (by_locations runs x))) ∙ ap (λ z. known_of old ++ filter p (by_locations runs z)) (sym s) ∙ h

pub location_end : (n : ℕ) (runs : List ThreadRun) (now : List Depth) (m : ℕ) (all : List Known) → m ≡ 0 → known_of now ++ filter (is_open n runs) (by_locations runs m) ≡ all → known_of now ≡ all
location_end n runs now m all z h = sym (append-nil (known_of now)) ∙ ap (λ k. known_of now ++ filter (is_open n runs) (by_locations runs k)) (sym z) ∙ h

-- Depths of the right size are told by what is known at them.
pub depths_are : (n : ℕ) (runs : List ThreadRun) (ds : List Depth) → All (IsDepth n runs) ds → ds ≡ map (depth_of n runs) (known_of ds)
depths_are n runs [] h = refl
depths_are n runs (d ∷ ds) h =
    let k : IsDepth n runs d = All-head (IsDepth n runs) d ds h in
    let D : ℕ → Depth = λ z. record { size = z; known = d.known } in
    ap (λ z. D z ∷ ds) k.size ∙ ap (λ (es : List Depth). depth_of n runs d.known ∷ es) (depths_are n runs ds (All-tail (IsDepth n runs) d ds h))

pub all_depths : (n : ℕ) (runs : List ThreadRun) (rs : List Event) (read some now : List Depth) (d : Depth) → rs ≡ reads runs → known_of read ≡ before_reads runs 0 rs → IsDepth n runs d → d.known ≡ Sources (length rs) → some ≡ (if nat_lt 1 d.size then read ++ d ∷ [] else read) →
    known_of now ≡ known_of some ++ filter (is_open n runs) (by_locations runs n) → All (IsDepth n runs) now → now ≡ depths_of n runs
all_depths n runs rs read some now d is a p k e b h =
    let rest = by_locations runs n in
    let F : List Event → List Known = λ es. before_reads runs 0 es ++ filter (is_open n runs) (Sources (length es) ∷ rest) in
    let w : known_of now ≡ F rs = b ∙ open_more n runs read some d rest (F rs) p e (ap (λ ks. ks ++ filter (is_open n runs) (d.known ∷ rest)) a ∙ ap (λ z. before_reads runs 0 rs ++ filter (is_open n runs) (z ∷ rest)) k) in
    depths_are n runs now h ∙ ap (map (depth_of n runs)) (w ∙ ap F is)

-- The last depth at which nothing is known of the orders.
pub last_depth : (n : ℕ) (runs : List ThreadRun) (rs : List Event) (size k : ℕ) → rs ≡ reads runs → size ≡ count_co n runs → k ≡ length rs → IsDepth n runs (record { size = size; known = Sources k })
last_depth n runs rs size k is e l =
    let none : product_by (count_sources runs) (drop k rs) ≡ 1 = ap (product_by (count_sources runs)) (drop_all k rs (omega (arith, l))) in
    let one : count_co n runs * 1 ≡ count_co n runs = mul-one (count_co n runs) in
    reading_depth n runs rs k size is (e ∙ sym one ∙ ap (λ z. count_co n runs * z) (sym none))

-- Of no runs there are no depths.
ones : (xs : List ℕ) → product_by (count_orders []) xs ≡ 1
ones [] = refl
ones (x ∷ xs) = ap (λ k. 1 * k) (ones xs)

no_places : (n : ℕ) → by_locations [] n ≡ []
no_places zero = refl
no_places (suc x) = no_places x

pub no_depths : (n : ℕ) → depths_of n [] ≡ []
no_depths n =
    let rest = filter (is_open n []) (by_locations [] n) in
    ap (λ z. map (depth_of n []) (if nat_lt 1 (z * 1) then Sources 0 ∷ rest else rest)) (ones (upto n)) ∙ ap (λ ks. map (depth_of n []) (filter (is_open n []) ks)) (no_places n)

-- A depth that may be added is one of the block's.
pub depths_more : (n : ℕ) (runs : List ThreadRun) (old new : List Depth) (d : Depth) (b : Bool) → new ≡ (if b then old ++ d ∷ [] else old) → IsDepth n runs d → All (IsDepth n runs) old → All (IsDepth n runs) new
depths_more n runs old new d true e k h = rw e (All-push (IsDepth n runs) old d h k)
depths_more n runs old new d false e k h = rw e h
