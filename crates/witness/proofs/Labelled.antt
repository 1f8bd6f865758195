-- Which names relate two events, from what the items come to.
use Rattle.std.proofs.Common.{◌≡◌, ℕ, zero, suc, ◌<◌, ◌≤◌, ◌+◌, List, [], ◌∷◌, ◌++◌, ◌⊎◌, Bool, true, false, not, cond, Option, Some, None, length, min, take, drop, get_or, map, inl, inr, refl, sym, ◌∙◌, ap, subst, arith, append_assoc, append-nil, ◌||◌}
use Rattle.std.proofs.lemmas.Bool.{cases_lt, false≢true}
use Rattle.std.proofs.lemmas.Slice.Eq.{bytes_eq-Decides}
use Rattle.std.proofs.lemmas.List.{take_more, drop_more, map_more}
use Rattle.std.proofs.lemmas.List.Folds.{list_any-append}
use Rattle.std.specs.List.{list_any, find}
use Rattle.std.specs.Str.{bytes_eq}
use Rattle.std.specs.Prelude.{codes}
use Rattle.cat_eval.specs.Judging.{Behind, Binds, First}
use Rattle.cat_eval.specs.Laws.{BehindAll, OneLeast, OneValue}
use Rattle.cat_eval.specs.Meaning.{Applied, Environment, IsEntryOf, IsLeast, Just, Means, Under, With, WithFunctions}
use Rattle.cat_eval.specs.Names.{Beforehand}
use Rattle.cat_eval.specs.Outcomes.{AreOutcomes}
use Rattle.cat_eval.specs.declared.value.Entry.{Entry}
use Rattle.cat_eval.specs.declared.value.Value.{Value}
use Rattle.cat_eval.specs.declared.value.Value.TheVariants.{Events, Pairs}
use Rattle.cat_eval.specs.declared.valuing.Outcome.{Outcome}
use Rattle.cat_model.specs.Named.{all_named, named_of, spelling_of, written}
use Rattle.cat_model.specs.declared.named.Named.{Named}
use Rattle.cat_model.specs.declared.named.Named.TheVariants.{Set, Rel}
use Rattle.cat_tree.specs.Tree.{Bound, Clause, Defined, Term, Word, bind, bind_recursively, check, clause_of, function_if, functions_in, include, name, show, unshow, values_in}
use Rattle.cat_tree.specs.declared.tree.Item.{Item}
use Rattle.events.specs.Executions.{GraphValue}
use Rattle.events.specs.Named.{event_count, NamedRel}
use Rattle.events.specs.declared.named.RelName.{RelName}
use Rattle.listings.specs.Lists.{ForEach, IsIn, Lists, NoRepeats}
use Rattle.relations.specs.Equality.{pair_below}
use Rattle.relations.specs.Relation.{IsExactly, Relation, In}
use Rattle.relations.specs.Tables.{cell}
use Rattle.witness.specs.Labels.{AreInOrder, IsLabel, IsWritten, all_labelled, at_last, bound_by, defined_in, hidden_by, hidden_if, is_related, labelled, named_relations, names_in, names_of, rebound, without, words_of}
use Rattle.witness.specs.Reasons.{MeansBehind}
use Rattle.events.specs.declared.named.RelName.TheVariants as rels
use Rattle.events.specs.declared.named.SetName.TheVariants as sets

-- a list without some of its words, and with one more

unlike : (x y : Word) (b : Bool) → bytes_eq x y ≡ b → not b ≡ true → ¬ (x ≡ y)
unlike x y true e n = absurd (false≢true n)
unlike x y false e n = λ s. false≢true (sym e ∙ (bytes_eq-Decides x y).1 s)

passing : (x y : Word) (b : Bool) → bytes_eq x y ≡ b → ¬ (x ≡ y) → not b ≡ true
passing x y true e n = absurd (n ((bytes_eq-Decides x y).0 e))
passing x y false e n = refl

in_without : (y : Word) (xs : List Word) (x : Word) → IsIn x (without y xs) → IsIn x xs × (¬ (x ≡ y))
in_without y [] x h = absurd h
in_without y (z ∷ xs) x h = by (bytes_eq z y) refl (in_without y xs x) h
  where
    by : (b : Bool) → bytes_eq z y ≡ b → (IsIn x (without y xs) → IsIn x xs × (¬ (x ≡ y))) → IsIn x (cond (not b) (z ∷ without y xs) (without y xs)) → IsIn x (z ∷ xs) × (¬ (x ≡ y))
    by true e rest h = (inr (rest h).0, (rest h).1)
    by false e rest h = elim h [ inl g ↦ (inl g, λ s. unlike z y false e refl (sym g ∙ s)) | inr m ↦ (inr (rest m).0, (rest m).1) ]

without_in : (y : Word) (xs : List Word) (x : Word) → IsIn x xs → ¬ (x ≡ y) → IsIn x (without y xs)
without_in y [] x h n = absurd h
without_in y (z ∷ xs) x h n = by (bytes_eq z y) refl (λ m. without_in y xs x m n) h
  where
    by : (b : Bool) → bytes_eq z y ≡ b → (IsIn x xs → IsIn x (without y xs)) → IsIn x (z ∷ xs) → IsIn x (cond (not b) (z ∷ without y xs) (without y xs))
    by true e rest h = elim h [ inl g ↦ absurd (n (g ∙ (bytes_eq-Decides z y).0 e)) | inr m ↦ rest m ]
    by false e rest h = elim h [ inl g ↦ inl g | inr m ↦ inr (rest m) ]

once_without : (y : Word) (xs : List Word) → NoRepeats xs → NoRepeats (without y xs)
once_without y [] o = tt
once_without y (z ∷ xs) o = by (bytes_eq z y) (once_without y xs o.1)
  where
    by : (b : Bool) → NoRepeats (without y xs) → NoRepeats (cond (not b) (z ∷ without y xs) (without y xs))
    by true rest = rest
    by false rest = ((λ m. o.0 (in_without y xs z m).0), rest)

in_more : (y : Word) (xs : List Word) (x : Word) → IsIn x (xs ++ y ∷ []) → IsIn x xs ⊎ (x ≡ y)
in_more y [] x h = elim h [ inl e ↦ inr e | inr m ↦ absurd m ]
in_more y (z ∷ xs) x h = elim h [ inl e ↦ inl (inl e) | inr m ↦ elim (in_more y xs x m) [ inl k ↦ inl (inr k) | inr e ↦ inr e ] ]

more_in : (y : Word) (xs : List Word) (x : Word) → IsIn x xs → IsIn x (xs ++ y ∷ [])
more_in y [] x h = absurd h
more_in y (z ∷ xs) x h = elim h [ inl e ↦ inl e | inr m ↦ inr (more_in y xs x m) ]

last_in : (y : Word) (xs : List Word) → IsIn y (xs ++ y ∷ [])
last_in y [] = inl refl
last_in y (z ∷ xs) = inr (last_in y xs)

once_more : (y : Word) (xs : List Word) → NoRepeats xs → ¬ IsIn y xs → NoRepeats (xs ++ y ∷ [])
once_more y [] o n = ((λ m. m), tt)
once_more y (z ∷ xs) o n = ((λ m. elim (in_more y xs z m) [ inl k ↦ o.0 k | inr e ↦ n (inl (sym e)) ]), once_more y xs o.1 (λ m. n (inr m)))

-- a name is bound anew: of the words with P those stay that are unlike it
rebound_lists : (P Q : Word → Type 0) (y : Word) (b : Bool) (xs : List Word) → Lists P xs → ((x : Word) → Q x → ((x ≡ y) × (b ≡ true)) ⊎ ((¬ (x ≡ y)) × P x)) → ((x : Word) → x ≡ y → b ≡ true → Q x) → ((x : Word) → ¬ (x ≡ y) → P x → Q x) → Lists Q (rebound y b xs)
rebound_lists P Q y true xs l split new old = record {
  once = once_more y (without y xs) (once_without y xs l.once) (λ m. (in_without y xs y m).1 refl);
  only = λ x h. elim (in_more y (without y xs) x h) [ inl m ↦ (let k = in_without y xs x m in old x k.1 (l.only x k.0)) | inr e ↦ new x e refl ];
  all = λ x q. elim (split x q) [
    | inl e ↦ (let S : Word → Type 0 = λ z. IsIn z (without y xs ++ y ∷ []) in subst S (sym e.0) (last_in y (without y xs)))
    | inr p ↦ more_in y (without y xs) x (without_in y xs x (l.all x p.1) p.0)
  ];
}
rebound_lists P Q y false xs l split new old = record {
  once = once_without y xs l.once;
  only = λ x h. (let k = in_without y xs x h in old x k.1 (l.only x k.0));
  all = λ x q. elim (split x q) [
    | inl e ↦ absurd (false≢true e.1)
    | inr p ↦ without_in y xs x (l.all x p.1) p.0
  ];
}

-- what names stand for, and which of them relate the events

abbrev Relates : Environment → ℕ → ℕ → Word → Type 0
Relates E i j x = (r : Relation) × E x [] (Pairs r) × In r i j

related_in : (i j : ℕ) (v : Value) (r : Relation) → Pairs r ≡ v → In r i j → is_related i j v ≡ true
related_in i j v r e h = (let P : Value → Type 0 = λ w. is_related i j w ≡ true in subst P e h)

relation_of : (i j : ℕ) (v : Value) → is_related i j v ≡ true → (r : Relation) × (Pairs r ≡ v) × In r i j
relation_of i j (Pairs r) h = (r, refl, h)
relation_of i j (Events s) h = absurd (false≢true h)

value_lists : (E : Environment) (i j : ℕ) (y : Word) (v : Value) (xs : List Word) → Lists (Relates E i j) xs → Lists (Relates (With E y (Just (λ w. w ≡ v))) i j) (rebound y (is_related i j v) xs)
value_lists E i j y v xs l = rebound_lists (Relates E i j) (Relates (With E y (Just (λ w. w ≡ v))) i j) y (is_related i j v) xs l
    (λ x q. elim q.1 [ inl e ↦ inl (e.0, related_in i j v q.0 e.1 q.2) | inr n ↦ inr (n.0, (q.0, n.1, q.2)) ])
    (λ x e b. (let r = relation_of i j v b in (r.0, inl (e, r.1), r.2)))
    (λ x n p. (p.0, inr (n, p.1), p.2))

under_lists : (E : Environment) (i j : ℕ) (es : List Entry) (xs : List Word) → Lists (Relates E i j) xs → Lists (Relates (Under E es) i j) (bound_by i j es xs)
under_lists E i j [] xs l = l
under_lists E i j (e ∷ es) xs l = under_lists (With E e.name (Just (λ w. w ≡ e.value))) i j es (rebound e.name (is_related i j e.value) xs) (value_lists E i j e.name e.value xs l)

function_lists : (n : ℕ) (B E : Environment) (i j : ℕ) (y p : Word) (ps : List Word) (t : Term) (xs : List Word) → Lists (Relates E i j) xs → Lists (Relates (With E y (Applied n B (p ∷ ps) t)) i j) (without y xs)
function_lists n B E i j y p ps t xs l = rebound_lists (Relates E i j) (Relates (With E y (Applied n B (p ∷ ps) t)) i j) y false xs l
    (λ x q. elim q.1 [ inl e ↦ absurd e.1 | inr n ↦ inr (n.0, (q.0, n.1, q.2)) ])
    (λ x e b. absurd (false≢true b))
    (λ x n p. (p.0, inr (n, p.1), p.2))

functions_lists : (n : ℕ) (B E : Environment) (i j : ℕ) (ds : List Defined) (xs : List Word) → Lists (Relates E i j) xs → Lists (Relates (WithFunctions n B (functions_in ds) E) i j) (hidden_by ds xs)
functions_lists n B E i j [] xs l = l
functions_lists n B E i j (d ∷ ds) xs l = by d.parameters refl (λ F ys. functions_lists n B F i j ds ys)
  where
    by : (ps : List Word) → d.parameters ≡ ps → ((F : Environment) (ys : List Word) → Lists (Relates F i j) ys → Lists (Relates (WithFunctions n B (functions_in ds) F) i j) (hidden_by ds ys)) → Lists (Relates (WithFunctions n B (function_if ps d (functions_in ds)) E) i j) (hidden_by ds (hidden_if ps d.name xs))
    by [] e rest = rest E xs l
    by (p ∷ ps) e rest =
        let F : List Word → Type 0 = λ qs. Lists (Relates (With E d.name (Applied n B qs d.value)) i j) (without d.name xs) in
        rest (With E d.name (Applied n B d.parameters d.value)) (without d.name xs) (subst F (sym e) (function_lists n B E i j d.name p ps d.value xs l))

item_lists : (n : ℕ) (E : Environment) (i j : ℕ) (item : Clause) (es : List Entry) (xs : List Word) → Lists (Relates E i j) xs → Lists (Relates (Behind n E item es) i j) (labelled i j item es xs)
item_lists n E i j (bind ds) es xs l = functions_lists n E (Under E es) i j ds (bound_by i j es xs) (under_lists E i j es xs l)
item_lists n E i j (bind_recursively bs) es xs l = under_lists E i j es xs l
item_lists n E i j (check flag negated kind a alias) es xs l = under_lists E i j es xs l
item_lists n E i j (include x) es xs l = under_lists E i j es xs l
item_lists n E i j (show us) es xs l = under_lists E i j es xs l
item_lists n E i j (unshow us) es xs l = under_lists E i j es xs l

abbrev entries_of : List Outcome → List (List Entry)
entries_of os = map (λ o. o.bound.items) os

items_lists : (n : ℕ) (E : Environment) (i j : ℕ) (items : List Clause) (os : List Outcome) (xs : List Word) → Lists (Relates E i j) xs → Lists (Relates (BehindAll n E items (entries_of os)) i j) (all_labelled i j items os xs)
items_lists n E i j [] os xs l = l
items_lists n E i j (item ∷ items) [] xs l = items_lists n (Behind n E item []) i j items [] (labelled i j item [] xs) (item_lists n E i j item [] xs l)
items_lists n E i j (item ∷ items) (o ∷ os) xs l = items_lists n (Behind n E item o.bound.items) i j items os (labelled i j item o.bound.items xs) (item_lists n E i j item o.bound.items xs l)

-- each item binds one list of values

same_entry : (a b : Entry) → a.name ≡ b.name → a.value ≡ b.value → a ≡ b
same_entry a b e f = λ i. record { name = e i; value = f i }

abbrev HasOne : ℕ → Environment → Type 0
HasOne n E = (a : Term) (v w : Value) → Means n E a v → Means n E a w → v ≡ w

abbrev HasOneLeast : ℕ → Environment → Type 0
HasOneLeast n E = (bs : List Bound) (es fs : List Entry) → IsLeast n E bs es → IsLeast n E bs fs → es ≡ fs

bound_once : (n : ℕ) (E : Environment) (bs : List Bound) (es fs : List Entry) → HasOne n E → ForEach (IsEntryOf n E) bs es → ForEach (IsEntryOf n E) bs fs → es ≡ fs
bound_once n E [] [] [] o h k = refl
bound_once n E [] [] (f ∷ fs) o h k = absurd k
bound_once n E [] (e ∷ es) fs o h k = absurd h
bound_once n E (b ∷ bs) [] fs o h k = absurd h
bound_once n E (b ∷ bs) (e ∷ es) [] o h k = absurd k
bound_once n E (b ∷ bs) (e ∷ es) (f ∷ fs) o h k =
    let head : e ≡ f = same_entry e f (h.0.name ∙ sym k.0.name) (o b.value e.value f.value h.0.value k.0.value) in
    ap (λ x. x ∷ es) head ∙ ap (λ xs. f ∷ xs) (bound_once n E bs es fs o h.1 k.1)

binds_once : (n : ℕ) (E : Environment) (item : Clause) (es fs : List Entry) → HasOne n E → HasOneLeast n E → Binds n E item es → Binds n E item fs → es ≡ fs
binds_once n E (bind ds) es fs o m h k = bound_once n E (values_in ds) es fs o h k
binds_once n E (bind_recursively bs) es fs o m h k = m bs es fs h k
binds_once n E (check flag negated kind a alias) es fs o m h k = h ∙ sym k
binds_once n E (include x) es fs o m h k = h ∙ sym k
binds_once n E (show us) es fs o m h k = h ∙ sym k
binds_once n E (unshow us) es fs o m h k = h ∙ sym k

-- what an expression means behind items is what it means once names stand for what the outcomes say

means_behind : (n : ℕ) (E : Environment) (items : List Clause) (os : List Outcome) (k : ℕ) (a : Term) (v : Value) → AreOutcomes n E items os → Means n (BehindAll n E (take k items) (entries_of os)) a v → MeansBehind n E (take k items) a v
means_behind n E items os zero a v h m = m
means_behind n E [] os (suc k) a v h m = m
means_behind n E (item ∷ items) [] (suc k) a v h m = absurd h
means_behind n E (item ∷ items) (o ∷ os) (suc k) a v h m = (o.bound.items, h.0.binds, means_behind n (Behind n E item o.bound.items) items os k a v h.1 m)

behind_means : (n : ℕ) (E : Environment) (items : List Clause) (os : List Outcome) (k : ℕ) (a : Term) (v : Value) →
    ((is : List Clause) (ess : List (List Entry)) → HasOne n (BehindAll n E is ess)) → ((is : List Clause) (ess : List (List Entry)) → HasOneLeast n (BehindAll n E is ess)) →
    AreOutcomes n E items os → MeansBehind n E (take k items) a v → Means n (BehindAll n E (take k items) (entries_of os)) a v
behind_means n E items os zero a v one least h m = m
behind_means n E [] os (suc k) a v one least h m = m
behind_means n E (item ∷ items) [] (suc k) a v one least h m = absurd h
behind_means n E (item ∷ items) (o ∷ os) (suc k) a v one least h m =
    let F : List Entry → Type 0 = λ es. MeansBehind n (Behind n E item es) (take k items) a v in
    let same : m.0 ≡ o.bound.items = binds_once n E item m.0 o.bound.items (one [] []) (least [] []) m.1 h.0.binds in
    behind_means n (Behind n E item o.bound.items) items os k a v (λ is ess. one (item ∷ is) (o.bound.items ∷ ess)) (λ is ess. least (item ∷ is) (o.bound.items ∷ ess)) h.1 (subst F same m.2)

-- the names of relations beforehand

found : (p : Named → Bool) (xs : List Named) (y : Named) → find p xs ≡ Some y → p y ≡ true
found p [] y h = absurd (let f : None ≡ Some y = h in cc)
found p (x ∷ xs) y h = by (p x) refl (found p xs y) h
  where
    by : (b : Bool) → p x ≡ b → (find p xs ≡ Some y → p y ≡ true) → cond b (Some x) (find p xs) ≡ Some y → p y ≡ true
    by true e rest h = let same : x ≡ y = (let f : Some x ≡ Some y = h in cc) in ap p (sym same) ∙ e
    by false e rest h = rest h

-- a word for a relation is written as the relation is
spelled : (x : Word) (r : RelName) → named_of x ≡ Some (Rel r) → x ≡ spelling_of (Rel r)
unfolding named_of written
spelled x r h = by (bytes_eq x (codes "I")) h
  where
    by : (b : Bool) → cond b (Some (Set sets.InitialWrites)) (written x) ≡ Some (Rel r) → x ≡ spelling_of (Rel r)
    by true h = absurd (let f : Some (Set sets.InitialWrites) ≡ Some (Rel r) = h in cc)
    by false h = sym ((bytes_eq-Decides (spelling_of (Rel r)) x).0 (found (λ n. bytes_eq (spelling_of n) x) all_named (Rel r) h))

spelling_named : (r : RelName) → named_of (spelling_of (Rel r)) ≡ Some (Rel r)
unfolding named_of written spelling_of
spelling_named rels.Po = refl
spelling_named rels.Int = refl
spelling_named rels.Ext = refl
spelling_named rels.Loc = refl
spelling_named rels.PoLoc = refl
spelling_named rels.Rf = refl
spelling_named rels.Co = refl
spelling_named rels.Fr = refl
spelling_named rels.Rfi = refl
spelling_named rels.Coi = refl
spelling_named rels.Fri = refl
spelling_named rels.Rfe = refl
spelling_named rels.Coe = refl
spelling_named rels.Fre = refl
spelling_named rels.Rmw = refl
spelling_named rels.Data = refl
spelling_named rels.Ctrl = refl
spelling_named rels.Addr = refl
spelling_named rels.Id = refl

unnamed : named_of (codes "fencerel") ≡ None
unfolding named_of written spelling_of
unnamed = refl

among_all : (r : RelName) → IsIn r named_relations
among_all rels.Po = inl refl
among_all rels.Rf = inr (inl refl)
among_all rels.Co = inr (inr (inl refl))
among_all rels.Fr = inr (inr (inr (inl refl)))
among_all rels.Rmw = inr (inr (inr (inr (inl refl))))
among_all rels.Data = inr (inr (inr (inr (inr (inl refl)))))
among_all rels.Ctrl = inr (inr (inr (inr (inr (inr (inl refl))))))
among_all rels.Addr = inr (inr (inr (inr (inr (inr (inr (inl refl)))))))
among_all rels.PoLoc = inr (inr (inr (inr (inr (inr (inr (inr (inl refl))))))))
among_all rels.Loc = inr (inr (inr (inr (inr (inr (inr (inr (inr (inl refl)))))))))
among_all rels.Int = inr (inr (inr (inr (inr (inr (inr (inr (inr (inr (inl refl))))))))))
among_all rels.Ext = inr (inr (inr (inr (inr (inr (inr (inr (inr (inr (inr (inl refl)))))))))))
among_all rels.Rfi = inr (inr (inr (inr (inr (inr (inr (inr (inr (inr (inr (inr (inl refl))))))))))))
among_all rels.Rfe = inr (inr (inr (inr (inr (inr (inr (inr (inr (inr (inr (inr (inr (inl refl)))))))))))))
among_all rels.Coi = inr (inr (inr (inr (inr (inr (inr (inr (inr (inr (inr (inr (inr (inr (inl refl))))))))))))))
among_all rels.Coe = inr (inr (inr (inr (inr (inr (inr (inr (inr (inr (inr (inr (inr (inr (inr (inl refl)))))))))))))))
among_all rels.Fri = inr (inr (inr (inr (inr (inr (inr (inr (inr (inr (inr (inr (inr (inr (inr (inr (inl refl))))))))))))))))
among_all rels.Fre = inr (inr (inr (inr (inr (inr (inr (inr (inr (inr (inr (inr (inr (inr (inr (inr (inr (inl refl)))))))))))))))))
among_all rels.Id = inr (inr (inr (inr (inr (inr (inr (inr (inr (inr (inr (inr (inr (inr (inr (inr (inr (inr (inl refl))))))))))))))))))

-- one relation more
written_more : (g : GraphValue) (i j : ℕ) (rs : List RelName) (r : RelName) (pairs : Relation) (b : Bool) (xs : List Word) → IsExactly (event_count g) (NamedRel g r) pairs → b ≡ cell pairs.pairs i j → Lists (IsWritten g i j rs) xs → Lists (IsWritten g i j (rs ++ r ∷ [])) (rebound (spelling_of (Rel r)) b xs)
written_more g i j rs r pairs b xs exact is l = rebound_lists (IsWritten g i j rs) (IsWritten g i j (rs ++ r ∷ [])) (spelling_of (Rel r)) b xs l
    (λ x q. split x q (bytes_eq x (spelling_of (Rel r))) refl)
    (λ x e t. record { relation = r; among = last_rel rs; named = ap named_of e ∙ spelling_named r; pairs = pairs; exact = exact; relates = sym is ∙ t })
    (λ x n p. record { relation = p.relation; among = more_rel rs p.relation p.among; named = p.named; pairs = p.pairs; exact = p.exact; relates = p.relates })
  where
    last_rel : (rs : List RelName) → IsIn r (rs ++ r ∷ [])
    last_rel [] = inl refl
    last_rel (z ∷ rs) = inr (last_rel rs)

    more_rel : (rs : List RelName) (m : RelName) → IsIn m rs → IsIn m (rs ++ r ∷ [])
    more_rel [] m h = absurd h
    more_rel (z ∷ rs) m h = elim h [ inl e ↦ inl e | inr k ↦ inr (more_rel rs m k) ]

    rel_more : (rs : List RelName) (m : RelName) → IsIn m (rs ++ r ∷ []) → IsIn m rs ⊎ (m ≡ r)
    rel_more [] m h = elim h [ inl e ↦ inr e | inr k ↦ absurd k ]
    rel_more (z ∷ rs) m h = elim h [ inl e ↦ inl (inl e) | inr k ↦ elim (rel_more rs m k) [ inl q ↦ inl (inr q) | inr e ↦ inr e ] ]

    same_rel : (m : RelName) (x : Word) → named_of x ≡ Some (Rel m) → x ≡ spelling_of (Rel r) → m ≡ r
    same_rel m x h e = (let f : Some (Rel m) ≡ Some (Rel r) = sym h ∙ ap named_of e ∙ spelling_named r in cc)

    holds : (m : RelName) (p : Relation) → IsExactly (event_count g) (NamedRel g m) p → In p i j → m ≡ r → b ≡ true
    holds m p x h e =
        let below = pair_below p i j x.canonical h in
        let R : RelName → Type 0 = λ z. NamedRel g z i j in
        let c : p.count ≡ event_count g = x.count in
        let low : i < p.count = below.0 in
        let high : j < p.count = below.1 in
        is ∙ exact.all i j (omega (arith, low, c)) (omega (arith, high, c)) (subst R e (x.only i j h))

    split : (x : Word) → IsWritten g i j (rs ++ r ∷ []) x → (t : Bool) → bytes_eq x (spelling_of (Rel r)) ≡ t → ((x ≡ spelling_of (Rel r)) × (b ≡ true)) ⊎ ((¬ (x ≡ spelling_of (Rel r))) × IsWritten g i j rs x)
    split x q true t = (let e = (bytes_eq-Decides x (spelling_of (Rel r))).0 t in inl (e, holds q.relation q.pairs q.exact q.relates (same_rel q.relation x q.named e)))
    split x q false t =
        let n : ¬ (x ≡ spelling_of (Rel r)) = unlike x (spelling_of (Rel r)) false t refl in
        elim (rel_more rs q.relation q.among) [
          | inl k ↦ inr (n, record { relation = q.relation; among = k; named = q.named; pairs = q.pairs; exact = q.exact; relates = q.relates })
          | inr e ↦ absurd (n (spelled x q.relation q.named ∙ ap (λ z. spelling_of (Rel z)) e))
        ]

-- before any item
first_lists : (g : GraphValue) (i j : ℕ) (xs : List Word) → Lists (IsWritten g i j named_relations) xs → Lists (Relates (First g) i j) xs
first_lists g i j xs l = record { once = l.once; only = λ x m. stands x (l.only x m); all = λ x q. l.all x (is_written x q.0 q.1 q.2) }
  where
    stands : (x : Word) → IsWritten g i j named_relations x → Relates (First g) i j x
    stands x w =
        let B : Option Named → Type 0 = λ o. Beforehand g o (Pairs w.pairs) in
        let before : Beforehand g (named_of x) (Pairs w.pairs) = subst B (sym w.named) (record { pairs = w.pairs; value = refl; exact = w.exact }) in
        (w.pairs, inr ((λ e. (let f : Some (Rel w.relation) ≡ None = sym w.named ∙ ap named_of e ∙ unnamed in cc)), before), w.relates)

    by_name : (x : Word) (r : Relation) (o : Option Named) → named_of x ≡ o → Beforehand g o (Pairs r) → In r i j → IsWritten g i j named_relations x
    by_name x r None e h k = absurd h
    by_name x r (Some (Set s)) e h k = absurd (let f : Pairs r ≡ Events h.events = h.value in cc)
    by_name x r (Some (Rel m)) e h k =
        let same : h.pairs ≡ r = (let f : Pairs r ≡ Pairs h.pairs = h.value in cc) in
        let X : Relation → Type 0 = λ z. IsExactly (event_count g) (NamedRel g m) z in
        record { relation = m; among = among_all m; named = e; pairs = r; exact = subst X same h.exact; relates = k }

    is_written : (x : Word) (r : Relation) → First g x [] (Pairs r) → In r i j → IsWritten g i j named_relations x
    is_written x r h k = elim h [ inl e ↦ absurd e.1 | inr n ↦ by_name x r (named_of x) refl n.1 k ]

-- the labels
pub labels_exact : (items : List Clause) (g : GraphValue) (i j k : ℕ) (os : List Outcome) (xs ys : List Word) → OneValue → OneLeast → AreOutcomes (event_count g) (First g) items os → Lists (IsWritten g i j named_relations) xs → ys ≡ all_labelled i j (take k items) os xs → Lists (IsLabel items k g i j) ys
labels_exact items g i j k os xs ys one least h l e =
    let n : ℕ = event_count g in
    let all : Lists (Relates (BehindAll (event_count g) (First g) (take k items) (entries_of os)) i j) (all_labelled i j (take k items) os xs) = items_lists (event_count g) (First g) i j (take k items) os xs (first_lists g i j xs l) in
    let L : List Word → Type 0 = λ zs. Lists (IsLabel items k g i j) zs in
    subst L (sym e) (record {
      once = all.once;
      only = λ x m. (let q = all.only x m in record { relation = q.0; stands = means_behind (event_count g) (First g) items os k (name x) (Pairs q.0) h q.1; relates = q.2 });
      all = λ x q. all.all x (q.relation, behind_means (event_count g) (First g) items os k (name x) (Pairs q.relation) (one g) (least g) h q.stands, q.relates);
    })

-- their order

later : (xs ys : List Word) (y : Word) → AreInOrder xs ys → AreInOrder xs (y ∷ ys)
later [] ys y h = tt
later (x ∷ xs) ys y h = inr h

order_without : (y : Word) (xs ys : List Word) → AreInOrder xs ys → AreInOrder (without y xs) ys
order_without y [] ys h = tt
order_without y (x ∷ xs) [] h = absurd h
order_without y (x ∷ xs) (z ∷ ys) (inr h) = later (without y (x ∷ xs)) ys z (order_without y (x ∷ xs) ys h)
order_without y (x ∷ xs) (z ∷ ys) (inl h) = by (bytes_eq x y) (order_without y xs ys h.1)
  where
    by : (b : Bool) → AreInOrder (without y xs) ys → AreInOrder (cond (not b) (x ∷ without y xs) (without y xs)) (z ∷ ys)
    by true rest = later (without y xs) ys z rest
    by false rest = inl (h.0, rest)

order_both : (y : Word) (xs ys : List Word) → AreInOrder xs ys → AreInOrder (without y xs) (without y ys)
order_both y [] ys h = tt
order_both y (x ∷ xs) [] h = absurd h
order_both y (x ∷ xs) (z ∷ ys) (inr h) = by (bytes_eq z y) (order_both y (x ∷ xs) ys h)
  where
    by : (b : Bool) → AreInOrder (without y (x ∷ xs)) (without y ys) → AreInOrder (without y (x ∷ xs)) (cond (not b) (z ∷ without y ys) (without y ys))
    by true rest = rest
    by false rest = later (without y (x ∷ xs)) (without y ys) z rest
order_both y (x ∷ xs) (z ∷ ys) (inl h) = (let F : Word → Type 0 = λ w. AreInOrder (without y (w ∷ xs)) (without y (z ∷ ys)) in subst F (sym h.0) (by (bytes_eq z y) (order_both y xs ys h.1)))
  where
    by : (b : Bool) → AreInOrder (without y xs) (without y ys) → AreInOrder (cond (not b) (z ∷ without y xs) (without y xs)) (cond (not b) (z ∷ without y ys) (without y ys))
    by true rest = rest
    by false rest = inl (refl, rest)

order_more : (y : Word) (xs ys : List Word) → AreInOrder xs ys → AreInOrder (xs ++ y ∷ []) (ys ++ y ∷ [])
order_more y [] [] h = inl (refl, tt)
order_more y [] (z ∷ ys) h = inr (order_more y [] ys tt)
order_more y (x ∷ xs) [] h = absurd h
order_more y (x ∷ xs) (z ∷ ys) (inl h) = inl (h.0, order_more y xs ys h.1)
order_more y (x ∷ xs) (z ∷ ys) (inr h) = inr (order_more y (x ∷ xs) ys h)

order_beside : (y : Word) (xs ys : List Word) → AreInOrder xs ys → AreInOrder xs (ys ++ y ∷ [])
order_beside y [] ys h = tt
order_beside y (x ∷ xs) [] h = absurd h
order_beside y (x ∷ xs) (z ∷ ys) (inl h) = inl (h.0, order_beside y xs ys h.1)
order_beside y (x ∷ xs) (z ∷ ys) (inr h) = inr (order_beside y (x ∷ xs) ys h)

turned_unlike : (x y : Word) (b : Bool) → bytes_eq x y ≡ false → bytes_eq y x ≡ b → bytes_eq y x ≡ false
turned_unlike x y true e f = absurd (false≢true (sym e ∙ (bytes_eq-Decides x y).1 (sym ((bytes_eq-Decides y x).0 f))))
turned_unlike x y false e f = f

at_last_more : (y : Word) (ws : List Word) → at_last (ws ++ y ∷ []) ≡ without y (at_last ws) ++ y ∷ []
unfolding at_last
at_last_more y [] = refl
at_last_more y (w ∷ ws) = ap (λ b. cond b (at_last (ws ++ y ∷ [])) (w ∷ at_last (ws ++ y ∷ []))) (list_any-append (λ z. bytes_eq z w) ws (y ∷ [])) ∙
    ap (λ zs. cond (list_any (λ z. bytes_eq z w) ws || (bytes_eq y w || false)) zs (w ∷ zs)) (at_last_more y ws) ∙ by (list_any (λ z. bytes_eq z w) ws) (bytes_eq y w) refl
  where
    by : (a b : Bool) → bytes_eq y w ≡ b → cond (a || (b || false)) (without y (at_last ws) ++ y ∷ []) (w ∷ without y (at_last ws) ++ y ∷ []) ≡ without y (cond a (at_last ws) (w ∷ at_last ws)) ++ y ∷ []
    by true b e = refl
    by false true e = ap (λ t. cond (not t) (w ∷ without y (at_last ws)) (without y (at_last ws)) ++ y ∷ []) (sym ((bytes_eq-Decides w y).1 (sym ((bytes_eq-Decides y w).0 e))))
    by false false e = ap (λ t. cond (not t) (w ∷ without y (at_last ws)) (without y (at_last ws)) ++ y ∷ []) (sym (turned_unlike y w (bytes_eq w y) e refl))

rebound_order : (y : Word) (b : Bool) (xs ws : List Word) → AreInOrder xs (at_last ws) → AreInOrder (rebound y b xs) (at_last (ws ++ y ∷ []))
rebound_order y true xs ws h =
    let F : List Word → Type 0 = λ zs. AreInOrder (without y xs ++ y ∷ []) zs in
    subst F (sym (at_last_more y ws)) (order_more y (without y xs) (without y (at_last ws)) (order_both y xs (at_last ws) h))
rebound_order y false xs ws h =
    let F : List Word → Type 0 = λ zs. AreInOrder (without y xs) zs in
    subst F (sym (at_last_more y ws)) (order_beside y (without y xs) (without y (at_last ws)) (order_both y xs (at_last ws) h))

entries_order : (i j : ℕ) (es : List Entry) (xs ws : List Word) → AreInOrder xs (at_last ws) → AreInOrder (bound_by i j es xs) (at_last (ws ++ map (λ e. e.name) es))
entries_order i j [] xs ws h = (let F : List Word → Type 0 = λ vs. AreInOrder xs (at_last vs) in subst F (sym (append-nil ws)) h)
entries_order i j (e ∷ es) xs ws h =
    let F : List Word → Type 0 = λ vs. AreInOrder (bound_by i j (e ∷ es) xs) (at_last vs) in
    subst F (append_assoc ws (e.name ∷ []) (map (λ e. e.name) es)) (entries_order i j es (rebound e.name (is_related i j e.value) xs) (ws ++ e.name ∷ []) (rebound_order e.name (is_related i j e.value) xs ws h))

hidden_order : (ds : List Defined) (xs ys : List Word) → AreInOrder xs ys → AreInOrder (hidden_by ds xs) ys
hidden_order [] xs ys h = h
hidden_order (d ∷ ds) xs ys h = hidden_order ds (hidden_if d.parameters d.name xs) ys (by d.parameters)
  where
    by : (ps : List Word) → AreInOrder (hidden_if ps d.name xs) ys
    by [] = h
    by (p ∷ ps) = order_without d.name xs ys h

each_named : (n : ℕ) (E : Environment) (bs : List Bound) (es : List Entry) → ForEach (IsEntryOf n E) bs es → map (λ e. e.name) es ≡ map (λ b. b.name) bs
each_named n E [] [] h = refl
each_named n E [] (e ∷ es) h = absurd h
each_named n E (b ∷ bs) [] h = absurd h
each_named n E (b ∷ bs) (e ∷ es) h = ap (λ y. y ∷ map (λ e. e.name) es) h.0.name ∙ ap (λ ys. b.name ∷ ys) (each_named n E bs es h.1)

entry_names : (n : ℕ) (E : Environment) (item : Clause) (es : List Entry) → Binds n E item es → map (λ e. e.name) es ≡ names_of item
entry_names n E (bind ds) es h = each_named n E (values_in ds) es h
entry_names n E (bind_recursively bs) es h = each_named n (Under E es) bs es h.solves.equations
entry_names n E (check flag negated kind a alias) es h = ap (map (λ e. e.name)) h
entry_names n E (include x) es h = ap (map (λ e. e.name)) h
entry_names n E (show us) es h = ap (map (λ e. e.name)) h
entry_names n E (unshow us) es h = ap (map (λ e. e.name)) h

items_order : (n : ℕ) (E : Environment) (i j : ℕ) (items : List Clause) (os : List Outcome) (k : ℕ) (xs ws : List Word) → AreOutcomes n E items os → AreInOrder xs (at_last ws) → AreInOrder (all_labelled i j (take k items) os xs) (at_last (ws ++ names_in (take k items)))
items_order n E i j items os zero xs ws h o = (let F : List Word → Type 0 = λ vs. AreInOrder xs (at_last vs) in subst F (sym (append-nil ws)) o)
items_order n E i j [] os (suc k) xs ws h o = (let F : List Word → Type 0 = λ vs. AreInOrder xs (at_last vs) in subst F (sym (append-nil ws)) o)
items_order n E i j (item ∷ items) [] (suc k) xs ws h o = absurd h
items_order n E i j (item ∷ items) (u ∷ os) (suc k) xs ws h o =
    let F : List Word → Type 0 = λ vs. AreInOrder (all_labelled i j (take k items) os (labelled i j item u.bound.items xs)) (at_last vs) in
    let G : List Word → Type 0 = λ vs. AreInOrder (labelled i j item u.bound.items xs) (at_last (ws ++ vs)) in
    let here : AreInOrder (labelled i j item u.bound.items xs) (at_last (ws ++ names_of item)) =
    subst G (entry_names n E item u.bound.items h.0.binds) (hidden_order (defined_in item) (bound_by i j u.bound.items xs) (at_last (ws ++ map (λ e. e.name) u.bound.items)) (entries_order i j u.bound.items xs ws o)) in
    subst F (append_assoc ws (names_of item) (names_in (take k items))) (items_order n (Behind n E item u.bound.items) i j items os k (labelled i j item u.bound.items xs) (ws ++ names_of item) h.1 here)

pub labels_ordered : (items : List Clause) (g : GraphValue) (i j k : ℕ) (os : List Outcome) (xs ys : List Word) → AreOutcomes (event_count g) (First g) items os → AreInOrder xs (at_last (words_of named_relations)) → ys ≡ all_labelled i j (take k items) os xs → AreInOrder ys (at_last (words_of named_relations ++ names_in (take k items)))
labels_ordered items g i j k os xs ys h o e =
    let F : List Word → Type 0 = λ zs. AreInOrder zs (at_last (words_of named_relations ++ names_in (take k items))) in
    subst F (sym e) (items_order (event_count g) (First g) i j items os k xs (words_of named_relations) h o)

-- the steps of the loops

pub next_written : (g : GraphValue) (i j : ℕ) (rs : List RelName) (k : ℕ) (r d : RelName) (pairs : Relation) (b : Bool) (y : Word) (xs ys : List Word) → k < length rs → r ≡ get_or rs k d → IsExactly (event_count g) (NamedRel g r) pairs → b ≡ cell pairs.pairs i j → y ≡ spelling_of (Rel r) → ys ≡ rebound y b xs → Lists (IsWritten g i j (take k rs)) xs → Lists (IsWritten g i j (take (k + 1) rs)) ys
next_written g i j rs k r d pairs b y xs ys low is exact found spelt new l =
    let F : List RelName → Type 0 = λ us. Lists (IsWritten g i j us) ys in
    let G : List Word → Type 0 = λ us. Lists (IsWritten g i j (take k rs ++ r ∷ [])) us in
    subst F (ap (λ z. take k rs ++ z ∷ []) is ∙ sym (take_more rs k d low)) (subst G (ap (λ z. rebound z b xs) (sym spelt) ∙ sym new) (written_more g i j (take k rs) r pairs b xs exact found l))

pub next_ordered : (rs : List RelName) (k : ℕ) (r d : RelName) (b : Bool) (y : Word) (xs ys : List Word) → k < length rs → r ≡ get_or rs k d → y ≡ spelling_of (Rel r) → ys ≡ rebound y b xs → AreInOrder xs (at_last (words_of (take k rs))) → AreInOrder ys (at_last (words_of (take (k + 1) rs)))
next_ordered rs k r d b y xs ys low is spelt new o =
    let F : List Word → Type 0 = λ us. AreInOrder ys (at_last us) in
    let G : List Word → Type 0 = λ us. AreInOrder us (at_last (words_of (take k rs) ++ spelling_of (Rel r) ∷ [])) in
    let more : words_of (take (k + 1) rs) ≡ words_of (take k rs) ++ spelling_of (Rel r) ∷ [] =
    map_more (λ z. spelling_of (Rel z)) rs k d low ∙ ap (λ z. words_of (take k rs) ++ spelling_of (Rel z) ∷ []) (sym is) in
    subst F (sym more) (subst G (ap (λ z. rebound z b xs) (sym spelt) ∙ sym new) (rebound_order (spelling_of (Rel r)) b xs (words_of (take k rs)) o))

pub drop_first : {X : Type 0} (x : X) (xs : List X) (k : ℕ) → k < length xs → x ≡ get_or xs k x → drop k xs ≡ x ∷ drop (k + 1) xs
drop_first x xs k low is = drop_more xs k x low ∙ ap (λ z. z ∷ drop (k + 1) xs) (sym is)

pub next_item : (i j k : ℕ) (items : List Item) (os : List Outcome) (item : Item) (o : Outcome) (xs ys : List Word) → k < length items → k < length os → item ≡ get_or items k item → o ≡ get_or os k o → ys ≡ labelled i j (clause_of item) o.bound.items xs →
    all_labelled i j (map clause_of (drop (k + 1) items)) (drop (k + 1) os) ys ≡ all_labelled i j (map clause_of (drop k items)) (drop k os) xs
next_item i j k items os item o xs ys low high is stands new =
    ap (λ us. all_labelled i j (map clause_of (drop (k + 1) items)) (drop (k + 1) os) us) new ∙
    ap (λ us. all_labelled i j (map clause_of us) (o ∷ drop (k + 1) os) xs) (ap (λ z. z ∷ drop (k + 1) items) is ∙ sym (drop_more items k item low)) ∙
    ap (λ us. all_labelled i j (map clause_of (drop k items)) us xs) (ap (λ z. z ∷ drop (k + 1) os) stands ∙ sym (drop_more os k o high))

-- the first items, as many as there are at most

take_all : {X : Type 0} (xs : List X) (k : ℕ) → length xs ≤ k → take k xs ≡ xs
take_all [] zero l = refl
take_all [] (suc k) l = refl
take_all (x ∷ xs) zero l = absurd (omega (arith, l))
take_all (x ∷ xs) (suc k) l = ap (λ ys. x ∷ ys) (take_all xs k (omega (arith, l)))

take_map : (items : List Item) (k : ℕ) → map clause_of (take k items) ≡ take k (map clause_of items)
take_map items zero = refl
take_map [] (suc k) = refl
take_map (x ∷ items) (suc k) = ap (λ ys. clause_of x ∷ ys) (take_map items k)

long_map : (items : List Item) → length (map clause_of items) ≡ length items
long_map [] = refl
long_map (x ∷ items) = ap suc (long_map items)

long_take : (items : List Item) (k : ℕ) → k ≤ length items → k ≡ length (take k items)
long_take items zero l = refl
long_take [] (suc k) l = absurd (omega (arith, l))
long_take (x ∷ items) (suc k) l = ap suc (long_take items k (omega (arith, l)))

same_long : (items : List Item) (clauses : List Clause) → map clause_of items ≡ clauses → length items ≡ length clauses
same_long items clauses e = sym (long_map items) ∙ ap length e

pub cut : (items : List Item) (clauses : List Clause) (k c : ℕ) → map clause_of items ≡ clauses → c ≡ min k (length clauses) → map clause_of (take c items) ≡ take k clauses
cut items clauses k c e d = elim (cases_lt k (length clauses)) [
  | inl l ↦ (let f : c ≡ k = omega (arith, d, l) in ap (λ n. map clause_of (take n items)) f ∙ take_map items k ∙ ap (take k) e)
  | inr l ↦ (
      let f : c ≡ length clauses = omega (arith, d, l) in
      let h : length clauses ≤ k = omega (arith, l) in
      let m = same_long items clauses e in
      ap (map clause_of) (take_all items c (omega (arith, f, m))) ∙ e ∙ sym (take_all clauses k h)
      )
]

-- the first of these items are no more than there are outcomes
pub cut_short : (items others : List Item) (clauses : List Clause) (k c : ℕ) → map clause_of items ≡ clauses → map clause_of others ≡ clauses → c ≡ min k (length items) → c ≡ length (take c others)
cut_short items others clauses k c e f d =
    let a = same_long items clauses e in
    let b = same_long others clauses f in
    long_take others c (omega (arith, a, b, d))

pub cut_as : (items others : List Item) (clauses : List Clause) (k c : ℕ) → map clause_of items ≡ clauses → map clause_of others ≡ clauses → c ≡ min k (length items) → map clause_of (take c others) ≡ take k clauses
cut_as items others clauses k c e f d = cut others clauses k c f (d ∙ ap (min k) (same_long items clauses e))

outcomes_as_long : (n : ℕ) (E : Environment) (items : List Item) (clauses : List Clause) (os : List Outcome) → map clause_of items ≡ clauses → AreOutcomes n E clauses os → length os ≡ length items
outcomes_as_long n E items clauses os e h = long n E clauses os h ∙ sym (same_long items clauses e)
  where
    long : (n : ℕ) (E : Environment) (cs : List Clause) (os : List Outcome) → AreOutcomes n E cs os → length os ≡ length cs
    long n E [] [] h = refl
    long n E [] (o ∷ os) h = absurd h
    long n E (c ∷ cs) [] h = absurd h
    long n E (c ∷ cs) (o ∷ os) h = ap suc (long n (Behind n E c o.bound.items) cs os h.1)

pub enough : (g : GraphValue) (items others : List Item) (clauses : List Clause) (os us : List Outcome) (k c : ℕ) → map clause_of items ≡ clauses → map clause_of others ≡ clauses → c ≡ min k (length items) → AreOutcomes (event_count g) (First g) clauses os → us ≡ os → length (take c others) ≤ length us
enough g items others clauses os us k c e f d h same =
    let cut : c ≡ length (take c others) = cut_short items others clauses k c e f d in
    let a = same_long items clauses e in
    let b = outcomes_as_long (event_count g) (First g) items clauses os e h in
    let u : length us ≡ length os = ap length same in
    omega (arith, cut, b, u, d)
