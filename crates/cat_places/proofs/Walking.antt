-- The items of a model in reading order.
use Rattle.std.proofs.Common.{◌≡◌, ◌≢◌, ℕ, zero, suc, ◌+◌, ◌-◌, ◌<◌, ◌≤◌, List, [], ◌∷◌, ◌++◌, length, take, drop, map, get_or, refl, ap, sym, subst, ◌∙◌, arith, append_assoc, append-nil}
use Rattle.std.specs.Prelude.{Option, Some, None, is_some, option_map}
use Rattle.std.proofs.lemmas.List.{get_or-map, length-map, length-take, take-append-le}
use Rattle.std.proofs.Math.Seq.{drop-cons}
use Rattle.cat_tree.specs.declared.tree.Item.{Item}
use Rattle.cat_tree.specs.Tree.{Word, File, Clause, clause_of}
use Rattle.cat_model.specs.Files.{built_in, file_of, entry_of}
use Rattle.cat_model.specs.declared.files.Entry.{Entry}
use Rattle.cat_places.specs.Walks.{turn, listed, brought, visits_of, cut}
use Rattle.cat_places.specs.declared.source.Source.{Source}
use Rattle.cat_places.specs.declared.walk.Turn.{Turn}
use Rattle.cat_places.specs.declared.walk.Turn.TheVariants.{Own, BuiltIn, Into, Missing, Cycle, TooDeep}
use Rattle.cat_places.specs.declared.walk.Visit.{Visit}

take_front : {A : Type 0} (n : ℕ) (xs ys : List A) → take n (take n xs ++ ys) ≡ take n (xs ++ ys)
take_front zero xs ys = refl
take_front (suc n) [] ys = refl
take_front (suc n) (x ∷ xs) ys = ap (λ l. x ∷ l) (take_front n xs ys)

pub take_short : {A : Type 0} (n : ℕ) (xs : List A) → length xs ≤ n → take n xs ≡ xs
take_short zero [] h = refl
take_short zero (x ∷ xs) h = absurd (omega (arith, h))
take_short (suc n) [] h = refl
take_short (suc n) (x ∷ xs) h = ap (λ l. x ∷ l) (take_short n xs (omega (arith, h)))

take_few : {A : Type 0} (n : ℕ) (xs : List A) → length (take n xs) ≤ n
take_few n xs = omega (arith, length-take n xs)

no_file : (x : Word) → file_of x [] ≡ built_in x
unfolding entry_of
no_file x = refl

pub some_built_in : {F : Type 0} (view : F → File) (o : Option F) (x : Word) (es : List Entry) → es ≡ [] → option_map view o ≡ file_of x es → is_some o ≡ is_some (built_in x)
some_built_in view (Some f) x es e h = ap is_some (h ∙ ap (file_of x) e ∙ no_file x)
some_built_in view None x es e h = ap is_some (h ∙ ap (file_of x) e ∙ no_file x)

pub nothing_more : (vs more : List Visit) → more ≡ [] → length vs ≤ 4097 → vs ≡ cut (vs ++ more)
nothing_more vs more e few = sym (take_short 4097 vs few) ∙ ap (take 4097) (sym (append-nil vs) ∙ ap (λ l. vs ++ l) (sym e))

pub brought_last : (ss : List Source) (fs : List File) (depth : ℕ) (path : List ℕ) (t : Turn) → depth ≡ 0 → brought ss fs depth path t ≡ []
brought_last ss fs zero path t e = refl
brought_last ss fs (suc depth) path t e = absurd (omega (arith, e))

pub brought_none : (ss : List Source) (fs : List File) (depth : ℕ) (path : List ℕ) (t : Turn) → ((s : ℕ) → t ≢ Into s) → brought ss fs depth path t ≡ []
brought_none ss fs zero path t h = refl
brought_none ss fs (suc depth) path Own h = refl
brought_none ss fs (suc depth) path BuiltIn h = refl
brought_none ss fs (suc depth) path (Into s) h = absurd (h s refl)
brought_none ss fs (suc depth) path Missing h = refl
brought_none ss fs (suc depth) path Cycle h = refl
brought_none ss fs (suc depth) path TooDeep h = refl

pub brought_inside : (ss : List Source) (fs : List File) (depth : ℕ) (path longer : List ℕ) (t : Turn) (s : ℕ) → depth ≢ 0 → t ≡ Into s → longer ≡ path ++ s ∷ [] →
    visits_of ss fs (depth - 1) longer s ≡ brought ss fs depth path t
brought_inside ss fs zero path longer t s h e l = absurd (h refl)
brought_inside ss fs (suc depth) path longer t s h e l =
    let at : suc depth - 1 ≡ depth = omega arith in
    ap (λ d. visits_of ss fs d longer s) at ∙ ap (λ p. visits_of ss fs depth p s) l ∙ ap (brought ss fs (suc depth) path) (sym e)

pub item_at : (items : List Item) (is : List Clause) (n : ℕ) (i : Item) → map clause_of items ≡ is → n < length items → i ≡ get_or items n i → drop n is ≡ clause_of i ∷ drop (n + 1) is
item_at items is n i e h at =
    let here : get_or (map clause_of items) n (clause_of i) ≡ clause_of i = get_or-map clause_of items n i (clause_of i) h ∙ ap clause_of (sym at) in
    let long : n < length (map clause_of items) = omega (arith, h, length-map items clause_of) in
    let one : suc n ≡ n + 1 = omega arith in
    subst (λ l. drop n l ≡ clause_of i ∷ drop (n + 1) l) e (drop-cons (map clause_of items) n (clause_of i) long ∙ ap (λ c. c ∷ drop (suc n) (map clause_of items)) here ∙ ap (λ m. clause_of i ∷ drop m (map clause_of items)) one)

-- one item more, with what it brings
pub visit_more : (ss : List Source) (brings : Turn → List Visit) (path : List ℕ) (s n : ℕ) (is : List Clause) (i : Clause) (t : Turn) (v : Visit) (old pushed new whole : List Visit) →
    drop n is ≡ i ∷ drop (n + 1) is → t ≡ turn ss path i → v ≡ record { source = s; item = n; turn = t } → pushed ≡ old ++ v ∷ [] → new ≡ cut (pushed ++ brings t) →
    cut (old ++ listed ss brings path s n (drop n is)) ≡ whole → cut (new ++ listed ss brings path s (n + 1) (drop (n + 1) is)) ≡ whole
visit_more ss brings path s n is i t v old pushed new whole d e ev p b w =
    let rest = listed ss brings path s (n + 1) (drop (n + 1) is) in
    let there : (u : Turn) → t ≡ u → cut (old ++ (record { source = s; item = n; turn = u } ∷ (brings u ++ rest))) ≡ cut (new ++ rest) =
    λ u same. ap (λ z. cut (old ++ (record { source = s; item = n; turn = z } ∷ (brings z ++ rest)))) (sym same) ∙
    ap cut (ap (λ z. old ++ (z ∷ (brings t ++ rest))) (sym ev) ∙ sym (append_assoc old (v ∷ []) (brings t ++ rest)) ∙ ap (λ l. l ++ (brings t ++ rest)) (sym p) ∙ sym (append_assoc pushed (brings t) rest)) ∙
    (sym (take_front 4097 (pushed ++ brings t) rest) ∙ ap (λ l. cut (l ++ rest)) (sym b)) in
    sym (there (turn ss path i) e) ∙ ap (λ l. cut (old ++ listed ss brings path s n l)) (sym d) ∙ w

pub few_more : (new more : List Visit) → new ≡ cut more → length new ≤ 4097
few_more new more e = subst (λ l. length l ≤ 4097) (sym e) (take_few 4097 more)

-- what is full stays
pub full : (vs rest whole : List Visit) → 4096 < length vs → length vs ≤ 4097 → cut (vs ++ rest) ≡ whole → vs ≡ whole
full vs rest whole many few w = sym (take_short 4097 vs few) ∙ sym (take-append-le 4097 vs rest (omega (arith, many))) ∙ w

-- nothing is left
pub done : (vs rest whole : List Visit) → rest ≡ [] → length vs ≤ 4097 → cut (vs ++ rest) ≡ whole → vs ≡ whole
done vs rest whole e few w = nothing_more vs rest e few ∙ w

pub no_item : (items : List Item) (is : List Clause) (n : ℕ) → map clause_of items ≡ is → length items ≤ n → length is ≤ n
no_item items is n e h = subst (λ l. length l ≤ n) e (omega (arith, h, length-map items clause_of))
