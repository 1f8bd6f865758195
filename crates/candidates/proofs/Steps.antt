-- Parts of the row of choices, and what stands at their numbers.
use Rattle.std.proofs.Common.{◌≡◌, ℕ, ◌+◌, ◌-◌, ◌<◌, ◌≤◌, List, [], ◌∷◌, ◌++◌, append_assoc, append-nil, map, length, refl, sym, ◌∙◌, ap, subst, inl, arith}
use Rattle.std.specs.List.{flat_map}
use Rattle.std.proofs.lemmas.List.{map-append, map-id}
use Rattle.events.specs.Executions.{ThreadRun, GraphValue}
use Rattle.listings.specs.Lists.{IsIn, sum_of}
use Rattle.listings.specs.Numbered.{walk}
use Rattle.listings.proofs.Walks.{walks_here, walks_on}
use Rattle.listings.proofs.Listings.{in_right}
use Rattle.candidates.specs.Executions.{block}
use Rattle.candidates.specs.Candidates.{choices, candidate, no_execution}
use Rattle.candidates.specs.Parts.{behind, IsPart}

pub sum_append : {A : Type 0} (size : A → ℕ) (xs ys : List A) → sum_of size (xs ++ ys) ≡ sum_of size xs + sum_of size ys
sum_append size [] ys = omega arith
sum_append size (x ∷ xs) ys = omega (arith, sum_append size xs ys)

pub sum_flat : {A B : Type 0} (size : B → ℕ) (f : A → List B) (xs : List A) → sum_of size (flat_map f xs) ≡ sum_of (λ x. sum_of size (f x)) xs
sum_flat size f [] = refl
sum_flat size f (x ∷ xs) = sum_append size (f x) (flat_map f xs) ∙ ap (λ n. sum_of size (f x) + n) (sum_flat size f xs)

-- The row walks past what is before.
walk_past : {A X : Type 0} (size : A → ℕ) (at : A → ℕ → X) (none : X) (before rest : List A) (i : ℕ) → walk size at none (before ++ rest) (sum_of size before + i) ≡ walk size at none rest i
walk_past size at none [] rest i = ap (walk size at none rest) (let z : 0 + i ≡ i = omega arith in z)
walk_past size at none (a ∷ before) rest i =
    let e : sum_of size (a ∷ before) + i - size a ≡ sum_of size before + i = omega arith in
    walks_on size at none a (before ++ rest) (sum_of size (a ∷ before) + i) (omega arith)
    ∙ ap (walk size at none (before ++ rest)) e ∙ walk_past size at none before rest i

abbrev pub Walk : List ℕ → List (List ThreadRun) → ℕ → GraphValue
Walk init left i = walk (block (length init)) (candidate init) no_execution left i

-- What stands in the block of a choice.
pub in_block : (init : List ℕ) (row : List (List ThreadRun)) (first : ℕ) (c : List ThreadRun) → IsPart (length init) row first (c ∷ []) → (j : ℕ) → j < block (length init) c → Walk init row (first + j) ≡ candidate init c j
in_block init row first c p j l =
    ap (λ r. Walk init r (first + j)) p.is ∙ ap (λ n. Walk init (p.before ++ ((c ∷ []) ++ p.after)) (n + j)) p.begins
    ∙ walk_past (block (length init)) (candidate init) no_execution p.before ((c ∷ []) ++ p.after) j
    ∙ walks_here (block (length init)) (candidate init) no_execution c p.after j l

pub place_in_block : (n : ℕ) (row : List (List ThreadRun)) (first : ℕ) (c : List ThreadRun) → IsPart n row first (c ∷ []) → (j : ℕ) → j < block n c → walk (block n) (λ runs i. i) 0 row (first + j) ≡ j
place_in_block n row first c p j l =
    let at : List ThreadRun → ℕ → ℕ = λ runs i. i in
    ap (λ r. walk (block n) at 0 r (first + j)) p.is ∙ ap (λ k. walk (block n) at 0 (p.before ++ ((c ∷ []) ++ p.after)) (k + j)) p.begins
    ∙ walk_past (block n) at 0 p.before ((c ∷ []) ++ p.after) j
    ∙ walks_here (block n) at 0 c p.after j l

-- A part ends within the row.
pub part_end : (n : ℕ) (row : List (List ThreadRun)) (first : ℕ) (part : List (List ThreadRun)) → IsPart n row first part → first + sum_of (block n) part ≤ sum_of (block n) row
part_end n row first part p =
    let e = ap (sum_of (block n)) p.is ∙ sum_append (block n) p.before (part ++ p.after) in
    omega (arith, e, p.begins, sum_append (block n) part p.after)

pub whole_part : (n : ℕ) (row : List (List ThreadRun)) → IsPart n row 0 row
whole_part n row = record { before = []; after = []; is = sym (append-nil row); begins = refl }

-- A part of a part.
pub part_of_part : (n : ℕ) (row before part after : List (List ThreadRun)) (first : ℕ) → IsPart n row first (before ++ (part ++ after)) → IsPart n row (first + sum_of (block n) before) part
part_of_part n row before part after first p = record {
  before = p.before ++ before;
  after = after ++ p.after;
  is = p.is
      ∙ ap (λ r. p.before ++ r) (append_assoc before (part ++ after) p.after ∙ ap (λ r. before ++ r) (append_assoc part after p.after))
      ∙ sym (append_assoc p.before before (part ++ (after ++ p.after)));
  begins = ap (λ k. k + sum_of (block n) before) p.begins ∙ sym (sum_append (block n) p.before before);
}

map_conses : (chosen : List ThreadRun) (run : ThreadRun) (cs : List (List ThreadRun)) → map (λ c. chosen ++ c) (map (λ c. run ∷ c) cs) ≡ map (λ c. (chosen ++ run ∷ []) ++ c) cs
map_conses chosen run [] = refl
map_conses chosen run (c ∷ cs) =
    ap (λ (d : List ThreadRun). d ∷ map (λ c. chosen ++ c) (map (λ c. run ∷ c) cs)) (sym (append_assoc chosen (run ∷ []) c))
    ∙ ap (λ (ds : List (List ThreadRun)). ((chosen ++ run ∷ []) ++ c) ∷ ds) (map_conses chosen run cs)

map_rows : (chosen : List ThreadRun) (runs : List ThreadRun) (cs : List (List ThreadRun)) → map (λ c. chosen ++ c) (flat_map (λ run. map (λ c. run ∷ c) cs) runs) ≡ flat_map (λ run. map (λ c. (chosen ++ run ∷ []) ++ c) cs) runs
map_rows chosen [] cs = refl
map_rows chosen (run ∷ runs) cs =
    map-append (λ c. chosen ++ c) (map (λ c. run ∷ c) cs) (flat_map (λ run. map (λ c. run ∷ c) cs) runs)
    ∙ ap (λ r. r ++ map (λ c. chosen ++ c) (flat_map (λ run. map (λ c. run ∷ c) cs) runs)) (map_conses chosen run cs)
    ∙ ap (λ r. map (λ c. (chosen ++ run ∷ []) ++ c) cs ++ r) (map_rows chosen runs cs)

-- Behind the chosen runs stand those of each run of the next thread.
pub behind_step : (chosen : List ThreadRun) (runs : List ThreadRun) (rest : List (List ThreadRun)) → behind chosen (runs ∷ rest) ≡ flat_map (λ run. behind (chosen ++ run ∷ []) rest) runs
behind_step chosen runs rest = map_rows chosen runs (choices rest)

pub behind_end : (chosen : List ThreadRun) → behind chosen [] ≡ chosen ∷ []
behind_end chosen = ap (λ (c : List ThreadRun). c ∷ []) (append-nil chosen)

pub behind_all : (threads : List (List ThreadRun)) → behind [] threads ≡ choices threads
behind_all threads = map-id (choices threads)

-- The choice of a part is one of the row, and its block is no larger than the row's.
pub part_member : (n : ℕ) (row : List (List ThreadRun)) (first : ℕ) (c : List ThreadRun) → IsPart n row first (c ∷ []) → IsIn c row
part_member n row first c p =
    let P : List (List ThreadRun) → Type 0 = λ r. IsIn c r in
    subst P (sym p.is) (in_right p.before ((c ∷ []) ++ p.after) c (inl refl))

pub part_block : (n : ℕ) (row : List (List ThreadRun)) (first : ℕ) (c : List ThreadRun) → IsPart n row first (c ∷ []) → first + block n c ≤ sum_of (block n) row
part_block n row first c p = omega (arith, part_end n row first (c ∷ []) p)
