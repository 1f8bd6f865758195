-- From what reading gives to the grammar.
use Rattle.std.proofs.Common.{◌≡◌, List, [], refl, sym, ◌∙◌}
use Rattle.std.specs.Prelude.{Result, Ok, Err, IfOk, IfErr, MatchResult}
use Rattle.descent.proofs.Tools.{moved}
use Rattle.litmus_syntax.specs.declared.draft.Draft.{Draft}
use Rattle.litmus_syntax.specs.declared.symbol.Symbol.{Symbol}
use Rattle.litmus_syntax.specs.declared.syntax_fault.SyntaxFault.{SyntaxFault}
use Rattle.litmus_syntax.specs.declared.syntax_fault.SyntaxFault.TheVariants.{Syntax, BadOrder, TooDeep, NoMemory}
use Rattle.litmus_syntax.specs.Drafts.{Written, written_of}
use Rattle.litmus_syntax.specs.Grammar.{Spells}
use Rattle.litmus_syntax.specs.Reading.{Cause, syntax, deep, misordered, Reading, Gives, test_at}
use Rattle.litmus_syntax.specs.Unspelled.{SpellsNone, IsUnspelled}
use Rattle.litmus_syntax.proofs.AlikeTests.{is_stuck}
use Rattle.litmus_syntax.proofs.Complete.{test-complete}
use Rattle.litmus_syntax.proofs.Deep.{test_deep}
use Rattle.litmus_syntax.proofs.Misorders.{test_misordered}
use Rattle.litmus_syntax.proofs.Sound.{test-sound}

pub draft_found : (ts rest : List Symbol) (r : Result Draft SyntaxFault) → Gives written_of r rest (test_at 32 ts) → IfOk r (λ d. Spells ts (written_of d))
draft_found ts rest (Ok d) g = (test-sound 32 ts rest (written_of d) g).0
draft_found ts rest (Err e) g = tt

-- what is spelled is read
read_of : (ts : List Symbol) (w : Written) → Spells ts w → test_at 32 ts ≡ Ok (w, [])
read_of ts w s = test-complete s refl

pub draft_only : (ts rest : List Symbol) (r : Result Draft SyntaxFault) → Gives written_of r rest (test_at 32 ts) → (w : Written) → Spells ts w → MatchResult r (λ d. written_of d ≡ w) (λ e. e ≡ NoMemory)
draft_only ts rest (Ok d) g w s = moved (λ l v. written_of d ≡ v) (sym g ∙ read_of ts w s) refl
draft_only ts rest (Err NoMemory) g w s = refl
draft_only ts rest (Err (Syntax p)) g w s = let e = read_of ts w s in absurd (cc)
draft_only ts rest (Err BadOrder) g w s = let e = read_of ts w s in absurd (cc)
draft_only ts rest (Err TooDeep) g w s = let e = read_of ts w s in absurd (cc)

none : (ts : List Symbol) (e : Cause) → ◌≡◌ {A = Reading Written} (test_at 32 ts) (Err e) → SpellsNone ts
none ts e fails w s = let reads : test_at 32 ts ≡ Ok (w, []) = read_of ts w s in cc

pub draft_cause : (ts rest : List Symbol) (r : Result Draft SyntaxFault) → Gives written_of r rest (test_at 32 ts) → IfErr r (λ e. IsUnspelled ts e)
draft_cause ts rest (Ok d) g = tt
draft_cause ts rest (Err NoMemory) g = tt
draft_cause ts rest (Err (Syntax n)) g = (none ts (syntax n) g, is_stuck ts n g)
draft_cause ts rest (Err BadOrder) g = (none ts misordered g, test_misordered 32 ts g, g)
draft_cause ts rest (Err TooDeep) g = (none ts deep g, test_deep 32 ts g, g)
