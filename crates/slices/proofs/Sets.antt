-- Sets of rows: which rows are in, and which are when some are put in or taken out.
use Rattle.std.proofs.Common.{◌≡◌, ◌≢◌, ℕ, ◌+◌, ◌<◌, ◌≤◌, List, [], ◌∷◌, ◌++◌, length, get_or, take, drop, Bool, true, false, cond, inl, inr, refl, sym, ap, ◌∙◌, subst}
use Rattle.std.specs.Prelude.{◌||◌}
use Rattle.std.specs.BTreeMap.{is_at}
use Rattle.std.specs.BTreeSet.{insert_key}
use Rattle.std.specs.List.{list_any}
use Rattle.std.specs.List.Sorted.{IsStrictlySortedBy}
use Rattle.std.specs.Ordering.{match_ordering}
use Rattle.std.specs.Set.{remove_key}
use Rattle.std.specs.declared.cmp.Ordering.{Ordering}
use Rattle.std.specs.declared.cmp.Ordering.TheVariants.{Less, Equal, Greater}
use Rattle.std.proofs.lemmas.List.{append_assoc, drop_all, drop_more, take-append-drop, take_all, take_more}
use Rattle.std.proofs.lemmas.Map.Text.{is_eq-slice_cmp}
use Rattle.std.proofs.lemmas.Slice.Eq.{bytes_eq-Decides}
use Rattle.listings.specs.Lists.{IsIn}
use Rattle.slices.specs.Sums.{IsGrownBy, IsUnion, IsWithout}
use Rattle.slices.specs.Verdicts.{AreSorted}
use Rattle.slices.proofs.Counted.{in_front, at_last, of_push}
use Rattle.slices.proofs.Rows.{row_cmp, are_sorted, precedes-irreflexive}
use Rattle.slices.proofs.Sorted.{below, same_sorted, sorted_tail}
use Rattle.slices.proofs.Unions.{union_one, union_union}

-- the test for a row

same_row : (r x : List ℕ) → is_at (row_cmp r) x ≡ true → r ≡ x
same_row r x e = (bytes_eq-Decides r x).0 (sym (is_eq-slice_cmp r x) ∙ e)

row_same : (r x : List ℕ) → r ≡ x → is_at (row_cmp r) x ≡ true
row_same r x e = is_eq-slice_cmp r x ∙ (bytes_eq-Decides r x).1 e

at_choice : (b : Bool) (r x : List ℕ) (xs : List (List ℕ)) → is_at (row_cmp r) x ≡ b → list_any (is_at (row_cmp r)) (x ∷ xs) ≡ true → (list_any (is_at (row_cmp r)) xs ≡ true → IsIn r xs) → IsIn r (x ∷ xs)
at_choice true r x xs e h rest = inl (same_row r x e)
at_choice false r x xs e h rest = inr (rest (cc))

pub any_row : (r : List ℕ) (ks : List (List ℕ)) → list_any (is_at (row_cmp r)) ks ≡ true → IsIn r ks
any_row r [] e = cc
any_row r (x ∷ xs) e = at_choice (is_at (row_cmp r) x) r x xs refl e (any_row r xs)

or_later : (b c : Bool) → c ≡ true → (b || c) ≡ true
or_later true c e = refl
or_later false c e = e

pub row_any : (r : List ℕ) (ks : List (List ℕ)) → IsIn r ks → list_any (is_at (row_cmp r)) ks ≡ true
row_any r [] p = absurd p
row_any r (x ∷ xs) (inl e) = ap (λ b. b || list_any (is_at (row_cmp r)) xs) (row_same r x e)
row_any r (x ∷ xs) (inr p) = or_later (is_at (row_cmp r) x) (list_any (is_at (row_cmp r)) xs) (row_any r xs p)

-- rows that are taken out

out_choice : (b : Bool) (s r x : List ℕ) (xs : List (List ℕ)) → is_at (row_cmp r) x ≡ b → ¬ IsIn x xs → (IsIn s (remove_key (is_at (row_cmp r)) xs) → IsIn s xs × (s ≢ r)) → IsIn s (cond b xs (x ∷ remove_key (is_at (row_cmp r)) xs)) → IsIn s (x ∷ xs) × (s ≢ r)
out_choice true s r x xs e once rest p = (inr p, λ same. once (let P : List ℕ → Type 0 = λ y. IsIn y xs in subst P (same ∙ same_row r x e) p))
out_choice false s r x xs e once rest (inl q) = (inl q, λ same. (let n : is_at (row_cmp r) x ≡ true = row_same r x (sym same ∙ q) in cc))
out_choice false s r x xs e once rest (inr p) = let h = rest p in (inr h.0, h.1)

stays_choice : (b : Bool) (s r x : List ℕ) (xs : List (List ℕ)) → is_at (row_cmp r) x ≡ b → (s ≢ r) → (IsIn s xs → IsIn s (remove_key (is_at (row_cmp r)) xs)) → IsIn s (x ∷ xs) → IsIn s (cond b xs (x ∷ remove_key (is_at (row_cmp r)) xs))
stays_choice true s r x xs e other rest (inl q) = absurd (other (q ∙ sym (same_row r x e)))
stays_choice true s r x xs e other rest (inr p) = p
stays_choice false s r x xs e other rest (inl q) = inl q
stays_choice false s r x xs e other rest (inr p) = inr (rest p)

out_one : (s r : List ℕ) (ks : List (List ℕ)) → AreSorted ks → IsIn s (remove_key (is_at (row_cmp r)) ks) → IsIn s ks × (s ≢ r)
out_one s r [] h p = absurd p
out_one s r (x ∷ xs) h p = out_choice (is_at (row_cmp r) x) s r x xs refl (λ q. precedes-irreflexive x (below x xs h x q)) (out_one s r xs (sorted_tail x xs h)) p

stays_one : (s r : List ℕ) (ks : List (List ℕ)) → (s ≢ r) → IsIn s ks → IsIn s (remove_key (is_at (row_cmp r)) ks)
stays_one s r [] other p = absurd p
stays_one s r (x ∷ xs) other p = stays_choice (is_at (row_cmp r) x) s r x xs refl other (stays_one s r xs other) p

pub without_none : (xs : List (List ℕ)) → AreSorted xs → IsWithout xs [] xs
without_none xs h = record { members = λ s. ((λ p. (p, λ q. q)), (λ q. q.0)); sorted = h }

-- one of the rows after another
pub without_more : (xs ys old new : List (List ℕ)) (i : ℕ) (k : List ℕ) → i < length ys → k ≡ get_or ys i k → IsWithout xs (take i ys) old → new ≡ remove_key (is_at (row_cmp k)) old → IsStrictlySortedBy row_cmp new → IsWithout xs (take (i + 1) ys) new
without_more xs ys old new i k l e h is ordered =
    let front : take (i + 1) ys ≡ take i ys ++ k ∷ [] = take_more ys i k l ∙ ap (λ x. take i ys ++ x ∷ []) (sym e) in
    let W : List (List ℕ) → Type 0 = λ us. IsWithout xs us new in
    let N : List (List ℕ) → List ℕ → Type 0 = λ us s. IsIn s us in
    subst W (sym front) (record {
      members = λ s. (
        (λ p. (let q = out_one s k old h.sorted (subst (λ us. N us s) is p) in
            let r = (h.members s).0 q.0 in
            (r.0, λ m. elim (of_push s (take i ys) k m) [ inl a ↦ r.1 a | inr b ↦ q.1 b ]))),
        (λ r. subst (λ us. N us s) (sym is) (stays_one s k old (λ b. r.1 (let P : List ℕ → Type 0 = λ y. IsIn y (take i ys ++ k ∷ []) in subst P (sym b) (at_last (take i ys) k))) ((h.members s).1 (r.0, λ a. r.1 (in_front s (take i ys) k a))))),
      );
      sorted = are_sorted new ordered;
    })

pub without_all : (xs ys zs : List (List ℕ)) (i : ℕ) → length ys ≤ i → IsWithout xs (take i ys) zs → IsWithout xs ys zs
without_all xs ys zs i l h = let W : List (List ℕ) → Type 0 = λ us. IsWithout xs us zs in subst W (take_all i ys l) h

-- rows that were put in and taken out again leave what was there
pub as_before : (old between new added : List (List ℕ)) → AreSorted old → IsGrownBy old added between → IsWithout between added new → new ≡ old
as_before old between new added sorted grown without =
    same_sorted new old without.sorted sorted
    (λ s p. let q = (without.members s).0 p in elim ((grown.whole.members s).0 q.0) [ inl a ↦ a | inr m ↦ absurd (q.1 m) ])
    (λ s p. (without.members s).1 ((grown.whole.members s).1 (inl p), λ m. grown.new s m p))

-- WHAT IS PUT IN, ONE ROW AFTER ANOTHER

-- Of some rows the last ones are left; those that were not there are added to what there was, and that is what there is now.
pub record ArePutIn (old rows left added now : List (List ℕ)) : Type 0 where
  pub grown : IsGrownBy old added now
  pub rest : (all : List (List ℕ)) → IsUnion now left all → IsUnion old rows all

-- the next row, as it is put in
next_left : (now next left all : List (List ℕ)) (k : List ℕ) → next ≡ insert_key row_cmp now k → IsUnion next left all → IsUnion now (k ∷ left) all
next_left now next left all k is h = union_union (union_one now next k is) h

-- one that was not there
pub new_put_in : (old rows left added more now next : List (List ℕ)) (k : List ℕ) → ArePutIn old rows (k ∷ left) added now → list_any (is_at (row_cmp k)) now ≡ false → more ≡ added ++ k ∷ [] → next ≡ insert_key row_cmp now k →
    ArePutIn old rows left more next
new_put_in old rows left added more now next k h lacks push is =
    let G : List (List ℕ) → Type 0 = λ us. IsGrownBy old us next in
    record {
      grown = subst G (sym push) (record {
        whole = union_union h.grown.whole (union_one now next k is);
        new = λ s p q. elim (of_push s added k p) [
          | inl a ↦ h.grown.new s a q
          | inr e ↦ (let t : list_any (is_at (row_cmp k)) now ≡ true = row_any k now ((h.grown.whole.members k).1 (inl (let P : List ℕ → Type 0 = λ y. IsIn y old in subst P e q))) in cc)
        ];
      });
      rest = λ all u. h.rest all (next_left now next left all k is u);
    }

-- one that was there
known_left : (now left all : List (List ℕ)) (k : List ℕ) → IsIn k now → IsUnion now left all → IsUnion now (k ∷ left) all
known_left now left all k there h = record {
  members = λ s. (
    (λ p. elim ((h.members s).0 p) [ inl a ↦ inl a | inr b ↦ inr (inr b) ]),
    (λ q. elim q [
      | inl a ↦ (h.members s).1 (inl a)
      | inr b ↦ elim b [ inl e ↦ (h.members s).1 (inl (let P : List ℕ → Type 0 = λ y. IsIn y now in subst P (sym e) there)) | inr m ↦ (h.members s).1 (inr m) ]
    ]),
  );
  sorted = h.sorted;
}

pub old_put_in : (old rows left added now next : List (List ℕ)) (k : List ℕ) → ArePutIn old rows (k ∷ left) added now → list_any (is_at (row_cmp k)) now ≡ true → next ≡ now → ArePutIn old rows left added next
old_put_in old rows left added now next k h has same =
    let P : List (List ℕ) → Type 0 = λ us. ArePutIn old rows left added us in
    subst P (sym same) (record { grown = h.grown; rest = λ all u. h.rest all (known_left now left all k (any_row k now has) u) })

-- a row that comes behind the first ones, at its place

at_cases : (o : Ordering) (k x : List ℕ) (front rest : List (List ℕ)) → front ++ match_ordering o (k ∷ x ∷ rest) (x ∷ rest) (x ∷ insert_key row_cmp rest k) ≡ match_ordering o (front ++ k ∷ x ∷ rest) (front ++ x ∷ rest) ((front ++ x ∷ []) ++ insert_key row_cmp rest k)
at_cases Less k x front rest = refl
at_cases Equal k x front rest = refl
at_cases Greater k x front rest = sym (append_assoc front (x ∷ []) (insert_key row_cmp rest k))

pub placed : (o : Ordering) (k x : List ℕ) (ks : List (List ℕ)) (i : ℕ) → i < length ks → x ≡ get_or ks i x → row_cmp k x ≡ o → insert_key row_cmp ks k ≡ take i ks ++ insert_key row_cmp (drop i ks) k →
    insert_key row_cmp ks k ≡ match_ordering o (take i ks ++ k ∷ drop i ks) ks (take (i + 1) ks ++ insert_key row_cmp (drop (i + 1) ks) k)
placed o k x ks i l e is so_far =
    let D : List (List ℕ) = drop (i + 1) ks in
    let rest : drop i ks ≡ x ∷ D = drop_more ks i x l ∙ ap (λ y. y ∷ D) (sym e) in
    let front : take (i + 1) ks ≡ take i ks ++ x ∷ [] = take_more ks i x l ∙ ap (λ y. take i ks ++ y ∷ []) (sym e) in
    let whole : take i ks ++ x ∷ D ≡ ks = ap (λ ys. take i ks ++ ys) (sym rest) ∙ take-append-drop i ks in
    so_far ∙ ap (λ ys. take i ks ++ insert_key row_cmp ys k) rest ∙ ap (λ c. take i ks ++ match_ordering c (k ∷ x ∷ D) (x ∷ D) (x ∷ insert_key row_cmp D k)) is ∙ at_cases o k x (take i ks) D ∙
    ap (λ ys. match_ordering o (take i ks ++ k ∷ ys) (take i ks ++ x ∷ D) ((take i ks ++ x ∷ []) ++ insert_key row_cmp D k)) (sym rest) ∙
    ap (λ ys. match_ordering o (take i ks ++ k ∷ drop i ks) ys ((take i ks ++ x ∷ []) ++ insert_key row_cmp D k)) whole ∙
    ap (λ ys. match_ordering o (take i ks ++ k ∷ drop i ks) ks (ys ++ insert_key row_cmp D k)) (sym front)

pub placed_last : (k : List ℕ) (ks : List (List ℕ)) (i : ℕ) → length ks ≤ i → insert_key row_cmp ks k ≡ take i ks ++ insert_key row_cmp (drop i ks) k → insert_key row_cmp ks k ≡ ks ++ k ∷ []
placed_last k ks i l so_far = so_far ∙ ap (λ ys. ys ++ insert_key row_cmp (drop i ks) k) (take_all i ks l) ∙ ap (λ ys. ks ++ insert_key row_cmp ys k) (drop_all i ks l)
