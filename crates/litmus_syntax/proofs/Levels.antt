-- What the loops use: no turn gives a symbol back, and what one turn does.
use Rattle.std.proofs.Common.{◌≡◌, ℕ, ◌<◌, ◌≤◌, List, [], ◌∷◌, length, arith, ap, map, refl, inl, inr, suc}
use Rattle.std.specs.Prelude.{Some, Ok, ◌++◌}
use Rattle.descent.specs.Reading.{match_option, ◌>>=◌, repeated}
use Rattle.descent.proofs.Tools.{bind_ok, moved}
use Rattle.descent.proofs.Turns.{repeated-more, items-more}
use Rattle.conditions.specs.declared.place.Binding.{Binding}
use Rattle.litmus_syntax.specs.declared.symbol.Symbol.{Symbol}
use Rattle.litmus_syntax.specs.declared.symbol.Terminal.TheVariants.{Semicolon, Comma}
use Rattle.litmus_tree.specs.declared.tree.Parameter.{Parameter}
use Rattle.litmus_syntax.specs.Drafts.{Listing, listing_of}
use Rattle.litmus_syntax.specs.declared.draft.Body.{Body}
use Rattle.litmus_syntax.specs.Reading.{syntax, after, before_name, entry_behind, parameter_behind, parameters_more, thread_at, threads_more}
use Rattle.litmus_syntax.proofs.Shorter.{entry_shorter, parameter_shorter, thread_shorter}
use Rattle.litmus_syntax.proofs.Sound.{entry_behind-sound, parameter-sound, thread-sound}
use Rattle.litmus_syntax.proofs.SingleSymbols.{after_takes, before_name-same}

entry_behind_takes : (bs cs : List Binding) (ts rest : List Symbol) → entry_behind bs ts ≡ Ok (cs, rest) → length rest ≤ length ts
entry_behind_takes bs cs ts rest e =
    elim (entry_behind-sound bs cs ts rest e) [
      | inl (s, t) ↦ omega (arith, ap length s)
      | inr (b, d, t) ↦ omega (arith, entry_shorter d)
    ]

pub parameters_more_takes : (ps qs : List Parameter) (ts rest : List Symbol) → parameters_more ps ts ≡ Ok (qs, rest) → length rest < length ts
unfolding parameters_more
parameters_more_takes ps qs ts rest e =
    let x = bind_ok (parameter_behind ps ts) _ _ e in
    moved (λ l t. length l < length ts) x.2 (parameter_shorter (parameter-sound ps x.0.0 ts x.0.1 x.1).0)

pub threads_more_takes : (n : ℕ) (bs cs : List Listing) (ts rest : List Symbol) → threads_more n tt bs ts ≡ Ok (cs, rest) → length rest < length ts
unfolding threads_more
threads_more_takes n bs cs ts rest e =
    let x = bind_ok (thread_at n (length bs) ts) _ _ e in
    moved (λ l t. length l < length ts) x.2 (thread_shorter (thread-sound n (length bs) ts x.0.1 x.0.0 x.1))

-- A turn of each loop takes a symbol.

pub entries_turn_takes : (ts mid rest : List Symbol) (o : Unit {0}) (a b : List Binding) → after Semicolon ts ≡ Some (o, mid) → entry_behind a mid ≡ Ok (b, rest) → length rest < length ts
entries_turn_takes ts mid rest o a b e f = omega (arith, after_takes Semicolon ts mid o e, entry_behind_takes a b mid rest f)

pub parameters_turn_takes : (ts mid rest : List Symbol) (o : Unit {0}) (a b : List Parameter) → after Comma ts ≡ Some (o, mid) → parameters_more a mid ≡ Ok (b, rest) → length rest < length ts
parameters_turn_takes ts mid rest o a b e f = omega (arith, after_takes Comma ts mid o e, parameters_more_takes a b mid rest f)

-- The same, from the element to what stands behind it.

pub entries_loop_takes : (ts mid rest : List Symbol) (o : Unit {0}) (a b : List Binding) → entry_behind a ts ≡ Ok (b, mid) → after Semicolon mid ≡ Some (o, rest) → length rest < length ts
entries_loop_takes ts mid rest o a b f e = omega (arith, after_takes Semicolon mid rest o e, entry_behind_takes a b ts mid f)

pub parameter_loop_takes : (ps : List Parameter) (p : Parameter) (ts mid rest : List Symbol) → parameter_behind ps ts ≡ Ok (p, mid) → after Comma mid ≡ Some (tt, rest) → length rest < length ts
parameter_loop_takes ps p ts mid rest f e = omega (arith, after_takes Comma mid rest tt e, parameter_shorter (parameter-sound ps p ts mid f).0)

pub threads_turn_takes : (n : ℕ) (ts mid rest : List Symbol) (o : Unit {0}) (a b : List Listing) → before_name ts ≡ Some (o, mid) → threads_more n o a mid ≡ Ok (b, rest) → length rest < length ts
threads_turn_takes n ts mid rest o a b e f = omega (arith, ap length (before_name-same ts mid o e), threads_more_takes n a b mid rest f)

-- A turn of each loop.

pub entries_turn : (a : List Binding) (ts : List Symbol) →
    repeated (syntax 0) (after Semicolon) (λ _ bs us. entry_behind bs us) a ts ≡
    match_option (after Semicolon ts) (Ok (a, ts)) (λ x. entry_behind a x.1 >>= λ y. repeated (syntax 0) (after Semicolon) (λ _ bs us. entry_behind bs us) y.0 y.1)
entries_turn = repeated-more (syntax 0) (after Semicolon) (λ _ bs us. entry_behind bs us) entries_turn_takes

pub parameters_turn : (a : List Parameter) (ts : List Symbol) →
    repeated (syntax 0) (after Comma) (λ _ ps us. parameters_more ps us) a ts ≡
    match_option (after Comma ts) (Ok (a, ts)) (λ x. parameters_more a x.1 >>= λ y. repeated (syntax 0) (after Comma) (λ _ ps us. parameters_more ps us) y.0 y.1)
parameters_turn = repeated-more (syntax 0) (after Comma) (λ _ ps us. parameters_more ps us) parameters_turn_takes

pub threads_turn : (n : ℕ) (a : List Listing) (ts : List Symbol) →
    repeated (syntax 0) before_name (threads_more n) a ts ≡
    match_option (before_name ts) (Ok (a, ts)) (λ x. thread_at n (length a) x.1 >>= λ y. repeated (syntax 0) before_name (threads_more n) (a ++ y.0 ∷ []) y.1)
unfolding threads_more
threads_turn n = items-more (syntax 0) before_name (threads_more n) (threads_turn_takes n) (λ bs ts. thread_at n (length bs) ts) (λ bs b. bs ++ b ∷ []) (λ o a ts. refl)

-- What the code's measures need.

pub thread_takes : (n k : ℕ) (ts rest : List Symbol) (b : Listing) → thread_at n k ts ≡ Ok (b, rest) → length rest < length ts
thread_takes n k ts rest b e = thread_shorter (thread-sound n k ts rest b e)

-- one more element

pub listings_push : (xs : List Body) (b : Body) → map listing_of (xs ++ b ∷ []) ≡ map listing_of xs ++ listing_of b ∷ []
listings_push [] b = refl
listings_push (x ∷ xs) b = ap (λ l. listing_of x ∷ l) (listings_push xs b)

pub listings_len : (xs : List Body) → length (map listing_of xs) ≡ length xs
listings_len [] = refl
listings_len (x ∷ xs) = ap (λ n. suc n) (listings_len xs)
