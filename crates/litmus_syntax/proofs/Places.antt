-- Places, and lists of them.
use Rattle.std.proofs.Common.{◌≡◌, ℕ, ◌<◌, ◌≤◌, List, [], ◌∷◌, ◌⊎◌, inl, inr, refl, subst, sym, ap, length, arith}
use Rattle.std.specs.Prelude.{◌++◌, true, false, Some, None, Ok}
use Rattle.descent.specs.Reading.{match_option, ◌>>=◌, repeated}
use Rattle.descent.proofs.Tools.{bind_ok, cases_of, chosen, moved, Yields, Shows}
use Rattle.descent.proofs.Turns.{repeated-keeps, repeated-more, Arrives, last, next}
use Rattle.conditions.specs.declared.place.Place.{Place}
use Rattle.litmus_syntax.specs.declared.symbol.Symbol.{Symbol}
use Rattle.litmus_syntax.specs.declared.symbol.Symbol.TheVariants.{Fixed, Name, Number}
use Rattle.litmus_syntax.specs.declared.symbol.Terminal.TheVariants.{Locations, LeftBracket, RightBracket, Semicolon, Colon}
use Rattle.litmus_syntax.specs.Grammar.{IsLocation, location_name, location_bracket, IsPlace, place_register, place_location, IsPlaces, places_none, places_one, places_empty, places_more, IsListed, listed_none, listed_some}
use Rattle.litmus_syntax.specs.Reading.{syntax, after, expected, name_at, number_look, number_at, location_at, register_at, place_at, ends_place, place_behind, places_at, bracketed_at, listed_at}
use Rattle.litmus_tree.specs.Tree.{Word}
use Rattle.litmus_syntax.proofs.Sounds.{Sound}
use Rattle.litmus_syntax.proofs.SingleSymbols.{after-some, after-first, after_takes, expected-ok, expected-first, name-ok, name-not, number_look-some}

pub location_shorter : {ts rest : List Symbol} {x : Word} → IsLocation ts rest x → length rest < length ts
location_shorter location_name = omega arith
location_shorter location_bracket = omega arith

pub place_shorter : {ts rest : List Symbol} {p : Place} → IsPlace ts rest p → length rest < length ts
place_shorter place_register = omega arith
place_shorter (place_location d) = location_shorter d

pub location-sound : Sound location_at IsLocation
unfolding location_at
location-sound ts rest x e =
    elim (cases_of (after LeftBracket ts) _ _ _ e) [
      | inl g ↦ subst (λ l. IsLocation l rest x) (sym (name-ok ts rest x g.1)) location_name
      | inr (y, was, g) ↦
          let w = bind_ok (name_at y.1) _ _ g in
          let z = bind_ok (expected RightBracket w.0.1) _ _ w.2 in
          let a : ts ≡ Fixed LeftBracket ∷ y.1 = after-some LeftBracket ts y.1 y.0 was in
          let b : y.1 ≡ Name w.0.0 ∷ w.0.1 = name-ok y.1 w.0.1 w.0.0 w.1 in
          let c : w.0.1 ≡ Fixed RightBracket ∷ z.0.1 = expected-ok RightBracket w.0.1 z.0.1 z.0.0 z.1 in
          let same : ts ≡ Fixed LeftBracket ∷ Name w.0.0 ∷ Fixed RightBracket ∷ z.0.1 = cc in
          subst (λ l. IsLocation l rest x) (sym same) (moved (λ l t. IsLocation (Fixed LeftBracket ∷ Name w.0.0 ∷ Fixed RightBracket ∷ z.0.1) l t) z.2 location_bracket)
    ]

pub place-sound : Sound place_at IsPlace
unfolding place_at register_at
place-sound ts rest p e =
    elim (cases_of (number_look ts) _ _ _ e) [
      | inl g ↦
          let x = bind_ok (location_at ts) _ _ g.1 in
          moved (λ l t. IsPlace ts l t) x.2 (place_location (location-sound ts x.0.1 x.0.0 x.1))
      | inr (k, was, g) ↦
          let y = bind_ok (expected Colon k.1) _ _ g in
          let x = bind_ok (name_at y.0.1) _ _ y.2 in
          let a : ts ≡ Number k.0 ∷ k.1 = number_look-some ts k.1 k.0 was in
          let b : k.1 ≡ Fixed Colon ∷ y.0.1 = expected-ok Colon k.1 y.0.1 y.0.0 y.1 in
          let c : y.0.1 ≡ Name x.0.0 ∷ x.0.1 = name-ok y.0.1 x.0.1 x.0.0 x.1 in
          let same : ts ≡ Number k.0 ∷ Fixed Colon ∷ Name x.0.0 ∷ x.0.1 = cc in
          subst (λ l. IsPlace l rest p) (sym same) (moved (λ l t. IsPlace (Number k.0 ∷ Fixed Colon ∷ Name x.0.0 ∷ x.0.1) l t) x.2 place_register)
    ]

pub location-complete : {ts rest : List Symbol} {x : Word} → IsLocation ts rest x → Yields location_at ts rest x
unfolding location_at name_at
location-complete (location_name {x} {rest}) = record { is = rw (name-not LeftBracket x rest) }
location-complete (location_bracket {x} {rest}) = record { is = rw (after-first LeftBracket (Name x ∷ Fixed RightBracket ∷ rest), expected-first RightBracket rest) }

-- a location begins with no number
location-plain : {ts rest : List Symbol} {x : Word} → IsLocation ts rest x → number_look ts ≡ None
unfolding number_look
location-plain location_name = refl
location-plain location_bracket = refl

pub place-complete : {ts rest : List Symbol} {p : Place} → IsPlace ts rest p → Yields place_at ts rest p
unfolding place_at register_at name_at number_look
place-complete (place_register {k} {x} {rest}) = record { is = rw (expected-first Colon (Name x ∷ rest)) }
place-complete (place_location d) = record { is = rw (location-plain d, (location-complete d).is) }

pub number-first : (v : ℕ) (rest : List Symbol) → number_at (Number v ∷ rest) ≡ Ok (v, rest)
unfolding number_at number_look
number-first v rest = refl

-- Listed places.

-- nothing, or one more place
place_behind-sound : (ps qs : List Place) (ts rest : List Symbol) → place_behind ps ts ≡ Ok (qs, rest) →
    ((rest ≡ ts) × (qs ≡ ps)) ⊎ ((p : Place) × IsPlace ts rest p × (qs ≡ ps ++ p ∷ []))
unfolding place_behind
place_behind-sound ps qs ts rest e =
    elim (chosen (ends_place ts) _ _ _ e) [
      | inl g ↦ inl (moved (λ l t. (l ≡ ts) × (t ≡ ps)) g.1 (refl, refl))
      | inr g ↦
          let x = bind_ok (place_at ts) _ _ g.1 in
          inr (moved (λ l t. (p : Place) × IsPlace ts l p × (t ≡ ps ++ p ∷ [])) x.2 (x.0.0, place-sound ts x.0.1 x.0.0 x.1, refl))
    ]

places-sound : Sound places_at IsPlaces
unfolding places_at
places-sound ts rest qs e =
    let x = bind_ok (place_behind [] ts) _ _ e in
    repeated-keeps (syntax 0) (after Semicolon) (λ _ ps us. place_behind ps us) (λ l t. IsPlaces ts l t)
    (λ o us mid back a b d was f.
    let same : us ≡ Fixed Semicolon ∷ mid = after-some Semicolon us mid o was in
    let past : IsPlaces ts (Fixed Semicolon ∷ mid) a = subst (λ l. IsPlaces ts l a) same d in
    elim (place_behind-sound a b mid back f) [
      | inl (s, t) ↦ rw (s, t) (places_empty past)
      | inr (c, g, t) ↦ rw t (places_more past g)
    ])
    x.0.0 x.0.1 qs rest
    (elim (place_behind-sound [] x.0.0 ts x.0.1 x.1) [
      | inl (s, t) ↦ rw (s, t) places_none
      | inr (c, g, t) ↦ rw t (places_one g)
    ])
    x.2

pub listed-sound : Sound listed_at IsListed
unfolding listed_at bracketed_at
listed-sound ts rest qs e =
    elim (cases_of (after Locations ts) _ _ _ e) [
      | inl g ↦ moved (λ l t. IsListed ts l t) g.1 listed_none
      | inr (y, was, g) ↦
          let x = bind_ok (expected LeftBracket y.1) _ _ g in
          let ps = bind_ok (places_at x.0.1) _ _ x.2 in
          let z = bind_ok (expected RightBracket ps.0.1) _ _ ps.2 in
          let a : ts ≡ Fixed Locations ∷ y.1 = after-some Locations ts y.1 y.0 was in
          let b : y.1 ≡ Fixed LeftBracket ∷ x.0.1 = expected-ok LeftBracket y.1 x.0.1 x.0.0 x.1 in
          let same : ts ≡ Fixed Locations ∷ Fixed LeftBracket ∷ x.0.1 = cc in
          subst (λ l. IsListed l rest qs) (sym same) (moved (λ l t. IsListed (Fixed Locations ∷ Fixed LeftBracket ∷ x.0.1) l t) z.2
          (listed_some (subst (λ l. IsPlaces x.0.1 l ps.0.0) (expected-ok RightBracket ps.0.1 z.0.1 z.0.0 z.1) (places-sound x.0.1 ps.0.1 ps.0.0 ps.1))))
    ]

place_behind_takes : (ps qs : List Place) (ts rest : List Symbol) → place_behind ps ts ≡ Ok (qs, rest) → length rest ≤ length ts
place_behind_takes ps qs ts rest e =
    elim (place_behind-sound ps qs ts rest e) [
      | inl (s, t) ↦ omega (arith, ap length s)
      | inr (b, d, t) ↦ omega (arith, place_shorter d)
    ]

pub places_turn_takes : (ts mid rest : List Symbol) (o : Unit {0}) (a b : List Place) → after Semicolon ts ≡ Some (o, mid) → place_behind a mid ≡ Ok (b, rest) → length rest < length ts
places_turn_takes ts mid rest o a b e f = omega (arith, after_takes Semicolon ts mid o e, place_behind_takes a b mid rest f)

-- The same, from the place to what stands behind it.
pub places_loop_takes : (ts mid rest : List Symbol) (o : Unit {0}) (a b : List Place) → place_behind a ts ≡ Ok (b, mid) → after Semicolon mid ≡ Some (o, rest) → length rest < length ts
places_loop_takes ts mid rest o a b f e = omega (arith, after_takes Semicolon mid rest o e, place_behind_takes a b ts mid f)

pub places_turn : (a : List Place) (ts : List Symbol) →
    repeated (syntax 0) (after Semicolon) (λ _ ps us. place_behind ps us) a ts ≡
    match_option (after Semicolon ts) (Ok (a, ts)) (λ x. place_behind a x.1 >>= λ y. repeated (syntax 0) (after Semicolon) (λ _ ps us. place_behind ps us) y.0 y.1)
places_turn = repeated-more (syntax 0) (after Semicolon) (λ _ ps us. place_behind ps us) places_turn_takes

place-opens : {ts rest : List Symbol} {p : Place} → IsPlace ts rest p → ends_place ts ≡ false
unfolding ends_place
place-opens place_register = refl
place-opens (place_location location_name) = refl
place-opens (place_location location_bracket) = refl

place-behind : (ps : List Place) {ts rest : List Symbol} {p : Place} → IsPlace ts rest p → Yields (place_behind ps) ts rest (ps ++ p ∷ [])
unfolding place_behind
place-behind ps d = record { is = rw (place-opens d, (place-complete d).is) }

none-behind : (ps : List Place) (ts : List Symbol) → ends_place ts ≡ true → Yields (place_behind ps) ts ts ps
unfolding place_behind
none-behind ps ts e = record { is = rw e }

abbrev PlacesTo : List Symbol → List Symbol → List Place → Type 0
PlacesTo ts rest ps = Arrives (syntax 0) (after Semicolon) (λ _ ps us. place_behind ps us) places_at ts rest ps

places-first : {ts rest : List Symbol} {ps : List Place} → Yields (place_behind []) ts rest ps → PlacesTo ts rest ps
unfolding places_at
places-first y = record { is = rw y.is }

semicolon : (ts : List Symbol) → Shows (after Semicolon) (Fixed Semicolon ∷ ts) ts tt
semicolon ts = record { is = after-first Semicolon ts }

places-next : {ts mid rest : List Symbol} {ps qs : List Place} → PlacesTo ts (Fixed Semicolon ∷ mid) ps → Yields (place_behind ps) mid rest qs → PlacesTo ts rest qs
places-next {mid = mid} s y = next (syntax 0) (after Semicolon) (λ _ ps us. place_behind ps us) places_turn_takes s (semicolon mid) y

semicolon-ends : (ts : List Symbol) → ends_place (Fixed Semicolon ∷ ts) ≡ true
unfolding ends_place
semicolon-ends ts = refl

bracket-ends : (ts : List Symbol) → ends_place (Fixed RightBracket ∷ ts) ≡ true
unfolding ends_place
bracket-ends ts = refl

places-arrive : {ts rest : List Symbol} {ps : List Place} → IsPlaces ts rest ps → ends_place rest ≡ true → PlacesTo ts rest ps
places-arrive (places_none {ts}) ends = places-first (none-behind [] ts ends)
places-arrive (places_one d) ends = places-first (place-behind [] d)
places-arrive (places_empty {rest = rest} {ps} d) ends = places-next (places-arrive d (semicolon-ends rest)) (none-behind ps rest ends)
places-arrive (places_more {mid = mid} {ps = ps} d e) ends = places-next (places-arrive d (semicolon-ends mid)) (place-behind ps e)

no_semicolon : (ts : List Symbol) → after Semicolon (Fixed RightBracket ∷ ts) ≡ None
unfolding after
no_semicolon ts = refl

places-complete : {ts rest : List Symbol} {ps : List Place} → IsPlaces ts (Fixed RightBracket ∷ rest) ps → Yields places_at ts (Fixed RightBracket ∷ rest) ps
places-complete {rest = rest} d = last (places-arrive d (bracket-ends rest)) (no_semicolon rest)

-- how the list, or what stands in its place, begins
pub listed-complete : {ts rest : List Symbol} {ps : List Place} → IsListed ts rest ps → after Locations rest ≡ None → Yields listed_at ts rest ps
unfolding listed_at bracketed_at
listed-complete listed_none ends = record { is = rw ends }
listed-complete (listed_some {ts} {rest} d) ends = record { is = rw (after-first Locations (Fixed LeftBracket ∷ ts), expected-first LeftBracket ts, (places-complete d).is, expected-first RightBracket rest) }
