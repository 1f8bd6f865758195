-- Slots by name, seen as entries.
use Rattle.std.proofs.Common.{◌≡◌, ℕ, suc, ◌+◌, List, [], ◌∷◌, Bool, true, false, not, cond, nat_lt, Some, None, length, is_some, refl, sym, ◌∙◌, ap, arith}
use Rattle.std.proofs.Math.Dec.{leb-zero, leb-suc-suc}
use Rattle.std.specs.List.{position, position_or_len}
use Rattle.std.specs.Map.{lookup, set_value}
use Rattle.std.specs.Option.{option_map}
use Rattle.std.specs.Str.{bytes_eq}
use Rattle.std.proofs.lemmas.Slice.Eq.{bytes_eq-Decides}
use Rattle.indexmap.specs.IndexMap.{insert_entry}
use Rattle.cat_model.specs.Files.{place_of, entry_of, loaded, loaded_in, store, store_at}
use Rattle.cat_model.specs.Slots.{entry, entries}
use Rattle.cat_model.specs.declared.files.Entry.{Entry}
use Rattle.cat_model.specs.declared.files.Slot.{Slot}
use Rattle.cat_tree.specs.Tree.{Word}

turned : (x y : Word) → bytes_eq y x ≡ bytes_eq x y
turned x y = by (bytes_eq y x) (bytes_eq x y) refl refl
  where
    by : (a b : Bool) → bytes_eq y x ≡ a → bytes_eq x y ≡ b → bytes_eq y x ≡ bytes_eq x y
    by true b p q = p ∙ sym ((bytes_eq-Decides x y).1 (sym ((bytes_eq-Decides y x).0 p)))
    by false true p q = (bytes_eq-Decides y x).1 (sym ((bytes_eq-Decides x y).0 q)) ∙ sym q
    by false false p q = p ∙ sym q

-- the entry of a name is made of its slot
pub entry_slot : (x : Word) (ss : List (Word × Slot)) → entry_of x (entries ss) ≡ option_map (λ s. entry (x, s)) (lookup (bytes_eq x) ss)
unfolding entry_of
entry_slot x [] = refl
entry_slot x (s ∷ ss) = by (bytes_eq x s.0) refl (entry_slot x ss)
  where
    by : (b : Bool) → bytes_eq x s.0 ≡ b → entry_of x (entries ss) ≡ option_map (λ t. entry (x, t)) (lookup (bytes_eq x) ss) → entry_of x (entries (s ∷ ss)) ≡ option_map (λ t. entry (x, t)) (lookup (bytes_eq x) (s ∷ ss))
    by true h rest = rw (turned x s.0, h) (ap (λ y. Some (entry (y, s.1))) (sym ((bytes_eq-Decides x s.0).0 h)))
    by false h rest = rw (turned x s.0, h) rest

-- what is stored replaces the first entry, or goes behind it
store_next : (p : Entry → Bool) (new e : Entry) (es : List Entry) → store_at (position p (e ∷ es)) new (e ∷ es) ≡ cond (p e) (new ∷ es) (e ∷ store_at (position p es) new es)
store_next p new e es = by (p e)
  where
    put : Bool → ℕ → List Entry
    put b i = store_at (cond b (Some i) None) new (e ∷ es)

    past : (b : Bool) (i : ℕ) → put b (suc i) ≡ e ∷ store_at (cond b (Some i) None) new es
    past true i = refl
    past false i = refl

    by : (b : Bool) → let i : ℕ = cond (not b) (1 + position_or_len p es) 0 in put (nat_lt i (length (e ∷ es))) i ≡ cond b (new ∷ es) (e ∷ store_at (position p es) new es)
    by true = ap (λ b. put b 0) (leb-suc-suc 0 (length es) ∙ leb-zero (length es))
    by false =
        let i : ℕ = position_or_len p es in
        let next : 1 + i ≡ suc i = omega arith in
        ap (λ k. put (nat_lt k (length (e ∷ es))) k) next ∙ ap (λ b. put b (suc i)) (leb-suc-suc (suc i) (length es)) ∙ past (nat_lt i (length es)) i

-- an inserted slot is a stored entry
pub inserted : (x : Word) (new : Slot) (ss : List (Word × Slot)) → entries (insert_entry bytes_eq ss x new) ≡ store (entry (x, new)) (entries ss)
unfolding place_of
inserted x new [] = refl
inserted x new (s ∷ ss) = by (bytes_eq x s.0) refl (inserted x new ss) ∙ sym (store_next (λ e. bytes_eq e.name x) (entry (x, new)) (entry s) (entries ss))
  where
    by : (b : Bool) → bytes_eq x s.0 ≡ b → entries (insert_entry bytes_eq ss x new) ≡ store (entry (x, new)) (entries ss)
        → entries (insert_entry bytes_eq (s ∷ ss) x new) ≡ cond (bytes_eq s.0 x) (entry (x, new) ∷ entries ss) (entry s ∷ store (entry (x, new)) (entries ss))
    by true h rest = rw (turned x s.0, h) (ap (λ y. entry (y, new) ∷ entries ss) (sym ((bytes_eq-Decides x s.0).0 h)))
    by false h rest = rw (turned x s.0, h) (ap (λ es. entry s ∷ es) rest)

-- a slot that is there takes a new value as if it were inserted
replaced : (x : Word) (new : Slot) (ss : List (Word × Slot)) → is_some (lookup (bytes_eq x) ss) ≡ true → set_value (bytes_eq x) ss new ≡ insert_entry bytes_eq ss x new
replaced x new [] h = cc
replaced x new (s ∷ ss) h = by (bytes_eq x s.0) h (replaced x new ss)
  where
    by : (b : Bool) → is_some (cond b (Some s.1) (lookup (bytes_eq x) ss)) ≡ true → (is_some (lookup (bytes_eq x) ss) ≡ true → set_value (bytes_eq x) ss new ≡ insert_entry bytes_eq ss x new)
        → cond b ((s.0, new) ∷ ss) (s ∷ set_value (bytes_eq x) ss new) ≡ cond b ((s.0, new) ∷ ss) (s ∷ insert_entry bytes_eq ss x new)
    by true h rest = refl
    by false h rest = ap (λ ts. s ∷ ts) (rest h)

pub rewritten : (x : Word) (new : Slot) (ss : List (Word × Slot)) → is_some (lookup (bytes_eq x) ss) ≡ true → entries (set_value (bytes_eq x) ss new) ≡ store (entry (x, new)) (entries ss)
rewritten x new ss h = ap entries (replaced x new ss h) ∙ inserted x new ss

-- a loaded name has a slot
pub not_loaded : (x : Word) (ss : List (Word × Slot)) → lookup (bytes_eq x) ss ≡ None → is_some (loaded x (entries ss)) ≡ true → ⊥
not_loaded x ss n h =
    let e : is_some (loaded x (entries ss)) ≡ false = ap (λ o. is_some (loaded_in o)) (entry_slot x ss ∙ ap (option_map (λ s. entry (x, s))) n) in
    cc
