-- The tokens of an item.
use Rattle.std.proofs.Common.{◌≡◌, ℕ, ◌-◌, ◌<◌, ◌≤◌, List, length, map, take, ap, sym, subst, ◌∙◌, arith, inl, inr}
use Rattle.std.specs.Prelude.{Option, Some, None, slice_get}
use Rattle.std.proofs.lemmas.Bool.{cases_lt}
use Rattle.std.proofs.lemmas.List.{length-map}
use Rattle.wb_text.specs.declared.token.Token.{Token}
use Rattle.wb_text.specs.declared.token.TokenKind.TheVariants.{Word}
use Rattle.cat_tree.specs.declared.tree.Item.{Item}
use Rattle.cat_tree.specs.Tree.{File, clause_of}
use Rattle.cat_places.specs.Own.{IsFileOf, HasItems, AreFirst}

pub counted : (text : List ℕ) (o : Option File) (g : File) (items : List Item) (n : ℕ) → o ≡ Some g → IsFileOf text o → map clause_of items ≡ g.items → HasItems text n → length items ≡ n
counted text o g items n e h l has =
    let same : has.0 ≡ g = (subst (IsFileOf text) e h).1 has.0 has.1 in
    sym (length-map items clause_of) ∙ ap length l ∙ ap (λ (f : File). length f.items) (sym same) ∙ has.2

pub uncounted : (text : List ℕ) (o : Option File) (n : ℕ) → o ≡ None → IsFileOf text o → ¬ HasItems text n
uncounted text o n e h has = subst (IsFileOf text) e h has.0 has.1

-- what is read of tokens past their end
abbrev pub no_token : Token
no_token = record { kind = Word; from = 0; to = 0 }

some_once : {A : Type 0} (x y : A) → Some x ≡ Some y → x ≡ y
some_once x y e = cc

-- the front up to a token is the longest
pub last_front : (text : List ℕ) (tokens : List Token) (n end : ℕ) (t : Token) → 0 < end → end ≤ length tokens → slice_get tokens (end - 1) ≡ Some t → HasItems (take t.to text) n →
    ((k : ℕ) (u : Token) → end ≤ k → slice_get tokens k ≡ Some u → ¬ HasItems (take u.to text) n) → AreFirst text tokens n end
last_front text tokens n end t some within at has longest = record {
  within = within;
  has = λ k e. (t, ap (slice_get tokens) (omega (arith, e)) ∙ at, has);
  longest = longest;
}

-- nor is that of one token less
pub front_less : (text : List ℕ) (tokens : List Token) (n end : ℕ) (t : Token) → slice_get tokens (end - 1) ≡ Some t → ¬ HasItems (take t.to text) n →
    ((k : ℕ) (u : Token) → end ≤ k → slice_get tokens k ≡ Some u → ¬ HasItems (take u.to text) n) → (k : ℕ) (u : Token) → end - 1 ≤ k → slice_get tokens k ≡ Some u → ¬ HasItems (take u.to text) n
front_less text tokens n end t at none longest k u low here has = elim (cases_lt k end) [
  | inl h ↦ none (subst (λ (v : Token). HasItems (take v.to text) n) (some_once u t (sym here ∙ ap (slice_get tokens) (omega (arith, low, h)) ∙ at)) has)
  | inr h ↦ longest k u h here has
]
