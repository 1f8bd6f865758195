-- Bytes that move in several steps.
use Rattle.std.proofs.Common.{ℕ, ◌+◌, ◌-◌, ◌≤◌, List, [], ◌++◌, length, take, drop, sym, ap, ◌∙◌, append_assoc, take-append-drop, arith, length-append}
use Rattle.std.specs.Prelude.{Option, Some, None, Result, Ok, Err, OnErr}
use Rattle.std.specs.Io.KnownBytes.{Appends, Consumes, Keeps}
use Rattle.std.proofs.KnownBytes.{Appends-trans, Consumes-trans, Keeps-refl, Keeps-trans}
use Rattle.std.proofs.lemmas.List.{take_rest}
use Rattle.wb_text.specs.Memory.{AppendsUpTo, LosesAtMost}

Appends-kept : (a b c : Option (List ℕ)) (xs : List ℕ) → Appends a b xs → Keeps b c → Appends a c xs
Appends-kept None b c xs h g = tt
Appends-kept (Some s) None c xs h g = absurd h
Appends-kept (Some s) (Some t) None xs h g = absurd g
Appends-kept (Some s) (Some t) (Some u) xs h g = g ∙ h

-- n bytes more
pub gives_more : (a b c : Option (List ℕ)) (bs rest : List ℕ) (n : ℕ) → AppendsUpTo a b bs rest → Appends b c (take n rest) → AppendsUpTo a c bs (drop n rest)
gives_more a b c bs rest n h g = record {
  given = h.given ++ take n rest;
  split = h.split ∙ ap (λ l. h.given ++ l) (sym (take-append-drop n rest)) ∙ sym (append_assoc h.given (take n rest) (drop n rest));
  grown = Appends-trans a b c h.given (take n rest) h.grown g;
}

-- no byte more
pub gives_kept : (a b c : Option (List ℕ)) (bs rest : List ℕ) → AppendsUpTo a b bs rest → Keeps b c → AppendsUpTo a c bs rest
gives_kept a b c bs rest h g = record { given = h.given; split = h.split; grown = Appends-kept a b c h.given h.grown g }

-- the same of the rest as `&rest[n..]` gives it
pub gives_range : (a b c : Option (List ℕ)) (bs rest : List ℕ) (n : ℕ) → AppendsUpTo a b bs rest → Appends b c (take n rest) → AppendsUpTo a c bs (take (length rest - n) (drop n rest))
gives_range a b c bs rest n h g = rw take_rest (gives_more a b c bs rest n h g)

-- two losses in a row
pub loses_more : (a b c : Option (List ℕ)) (bs cs : List ℕ) (n : ℕ) → Consumes a b bs → Consumes b c cs → length bs + length cs ≤ n → LosesAtMost n a c
loses_more a b c bs cs n h g small = (bs ++ cs, omega (arith, length-append bs cs), Consumes-trans a b c bs cs h g)

pub on_any_err : {T E P : Type 0} (r : Result T E) → P → OnErr r P
on_any_err (Ok x) p = tt
on_any_err (Err e) p = p

-- tries that move nothing, and then one that moves some

pub keeps_first : (a : Option (List ℕ)) → Keeps a a
keeps_first = Keeps-refl

pub keeps_on : (a b c : Option (List ℕ)) → Keeps a b → Keeps b c → Keeps a c
keeps_on = Keeps-trans

pub takes_kept : (a b c : Option (List ℕ)) (bs : List ℕ) → Keeps a b → Consumes b c bs → Consumes a c bs
takes_kept None b c bs h g = tt
takes_kept (Some s) None c bs h g = absurd h
takes_kept (Some s) (Some t) None bs h g = absurd g
takes_kept (Some s) (Some t) (Some u) bs h g = sym h ∙ g

pub given_kept : (a b c : Option (List ℕ)) (bs : List ℕ) → Keeps a b → Appends b c bs → Appends a c bs
given_kept None b c bs h g = tt
given_kept (Some s) None c bs h g = absurd h
given_kept (Some s) (Some t) None bs h g = absurd g
given_kept (Some s) (Some t) (Some u) bs h g = g ∙ ap (λ l. l ++ bs) h
