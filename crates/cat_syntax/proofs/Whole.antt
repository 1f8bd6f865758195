-- The whole of the symbols.
use Rattle.std.proofs.Common.{◌≡◌, ℕ, ◌≤◌, List, [], length, refl, sym, ◌∙◌, ap, subst, arith}
use Rattle.std.specs.Prelude.{Result, Ok, Err, IfOk, IfErr, MatchResult}
use Rattle.std.specs.Result.{IsErrAnd}
use Rattle.wb_text.specs.Faults.{HasCause}
use Rattle.wb_text.specs.declared.fault.TextFault.{TextFault}
use Rattle.wb_text.specs.declared.fault.TextFault.TheVariants as texts
use Rattle.wb_text.specs.declared.token.Dialect.TheVariants.{Cat}
use Rattle.wb_text.specs.declared.token.Token.{Token}
use Rattle.wb_text.specs.Tokens.{IsTokenList}
use Rattle.cat_syntax.specs.Faults.{cause_of}
use Rattle.cat_syntax.specs.declared.counting.Context.TheVariants.{Naming}
use Rattle.cat_syntax.specs.declared.fault.CatFault.{CatFault}
use Rattle.cat_syntax.specs.declared.fault.CatFault.TheVariants.{Text, Syntax, Unsupported, TooDeep, TooLarge, NoMemory}
use Rattle.cat_syntax.specs.declared.syntax_fault.SyntaxFault.{SyntaxFault}
use Rattle.cat_syntax.specs.declared.syntax_fault.SyntaxFault.TheVariants as faults
use Rattle.cat_syntax.specs.declared.symbol.Symbol.{Symbol}
use Rattle.cat_syntax.specs.Counting.{weight}
use Rattle.cat_syntax.specs.Items.{IsFile}
use Rattle.cat_syntax.specs.Nodes.{nodes}
use Rattle.cat_syntax.specs.Reading.{Stop, Reading, Gives, file_at}
use Rattle.cat_syntax.specs.Reads.{Reads, IsRefused, Tells}
use Rattle.cat_syntax.specs.Symbols.{symbols_of}
use Rattle.cat_tree.specs.Tree.{File}
use Rattle.cat_syntax.proofs.Weights.{file-weight}
use Rattle.cat_syntax.proofs.ItemsSound.{file-sound}
use Rattle.cat_syntax.proofs.ItemsComplete.{file-complete}

pub found_of : (ss rest : List Symbol) (r : Result File SyntaxFault) → weight Naming 0 ss ≤ 4096 → Gives {X = File} {A = File} (λ f. f) r rest (file_at ss) → IfOk r (λ f. IsFile ss f × (nodes f ≤ 4096))
found_of ss rest (Ok f) h g =
    let d = file-sound ss rest f g in
    (d, omega (arith, file-weight ss f d))
found_of ss rest (Err e) h g = tt

same-file : (ss rest : List Symbol) (f g : File) → IsFile ss f → file_at ss ≡ Ok (g, rest) → g ≡ f
same-file ss rest f g d e =
    let same : ◌≡◌ {A = Reading File} (Ok (g, rest)) (Ok (f, [])) = sym e ∙ file-complete ss f d in
    let pair : ◌≡◌ {A = File × List Symbol} (g, rest) (f, []) = cc in
    ap (λ (q : File × List Symbol). q.0) pair

not-refused : (ss : List Symbol) (c : Stop) (f : File) → IsFile ss f → file_at ss ≡ Err c → ⊥
not-refused ss c f d e = let g = file-complete ss f d in cc

-- symbols that are a model are read as it, unless memory ran out
pub only_of : (ss rest : List Symbol) (r : Result File SyntaxFault) (f : File) → IsFile ss f → Gives {X = File} {A = File} (λ g. g) r rest (file_at ss) → MatchResult r (λ g. g ≡ f) (λ e. e ≡ faults.NoMemory)
only_of ss rest (Ok g) f d h = same-file ss rest f g d h
only_of ss rest (Err faults.NoMemory) f d h = refl
only_of ss rest (Err faults.Unexpected) f d h = absurd (not-refused ss (faults.Unexpected, rest) f d h)
only_of ss rest (Err faults.BoundTwice) f d h = absurd (not-refused ss (faults.BoundTwice, rest) f d h)
only_of ss rest (Err faults.RecursiveFunction) f d h = absurd (not-refused ss (faults.RecursiveFunction, rest) f d h)
only_of ss rest (Err faults.TooDeep) f d h = absurd (not-refused ss (faults.TooDeep, rest) f d h)

pub small_of : (ss : List Symbol) (f : File) → IsFile ss f → nodes f ≤ 4096 → weight Naming 0 ss ≤ 4096
small_of ss f d h = omega (arith, file-weight ss f d)

-- want of memory in the text layer
pub no_memory : (r : Result File CatFault) (e : TextFault) (f : File) → IsErrAnd r (λ g. g ≡ cause_of e) → e ≡ texts.NoMemory → MatchResult r (λ g. g ≡ f) (λ g. g ≡ NoMemory)
no_memory (Ok g) e f h same = absurd h
no_memory (Err g) e f h same = h ∙ ap cause_of same

-- a text that has no tokens
text_cause : (text : List ℕ) (e : TextFault) → HasCause Cat text e → IsRefused text (cause_of e)
text_cause text texts.NoMemory h = tt
text_cause text texts.NotAscii h = (λ e. cc, h)
text_cause text texts.BadByte h = (λ e. cc, h)
text_cause text texts.OpenComment h = (λ e. cc, h)
text_cause text texts.OpenString h = (λ e. cc, h)
text_cause text texts.NumberTooBig h = (λ e. cc, h)
text_cause text texts.TooLong h = (λ e. cc, h)

pub text_refused : (text : List ℕ) (r : Result File CatFault) (e : TextFault) → IsErrAnd r (λ g. g ≡ cause_of e) → HasCause Cat text e → IfErr r (λ g. IsRefused text g)
text_refused text (Ok f) e is h = tt
text_refused text (Err g) e is h = subst (IsRefused text) (sym is) (text_cause text e h)

-- a refusal that tells of the symbols stands, since a model would have been read
refused_of : (text : List ℕ) (ts : List Token) (e : CatFault) → IsTokenList Cat text ts → Tells e (symbols_of text ts) ts (length text) → ((f : File) → Reads text f → e ≡ NoMemory) → IsRefused text e
refused_of text ts NoMemory list reported only = tt
refused_of text ts (Text f) list reported only = absurd reported
refused_of text ts (Syntax n) list reported only = record { tokens = ts; is_list = list; none = λ f d. let e = only f d in cc; reported = reported }
refused_of text ts (Unsupported w) list reported only = record { tokens = ts; is_list = list; none = λ f d. let e = only f d in cc; reported = reported }
refused_of text ts TooDeep list reported only = record { tokens = ts; is_list = list; none = λ f d. let e = only f d in cc; reported = reported }
refused_of text ts TooLarge list reported only = record { tokens = ts; is_list = list; none = λ f d. let e = only f d in cc; reported = reported }

refused_in : (text : List ℕ) (ts : List Token) (r : Result File CatFault) → IsTokenList Cat text ts → IfErr r (λ e. Tells e (symbols_of text ts) ts (length text)) →
    ((f : File) → Reads text f → MatchResult r (λ g. g ≡ f) (λ e. e ≡ NoMemory)) → IfErr r (λ e. IsRefused text e)
refused_in text ts (Ok g) list reported only = tt
refused_in text ts (Err e) list reported only = refused_of text ts e list reported only

pub refused : (text : List ℕ) (ts us : List Token) (ss : List Symbol) (r : Result File CatFault) → IsTokenList Cat text ts → ss ≡ symbols_of text ts → us ≡ ts →
    IfErr r (λ e. Tells e ss us (length text)) → ((f : File) → Reads text f → MatchResult r (λ g. g ≡ f) (λ e. e ≡ NoMemory)) → IfErr r (λ e. IsRefused text e)
refused text ts us ss r list p q reported only =
    refused_in text ts r list (subst (λ u. IfErr r (λ e. Tells e (symbols_of text ts) u (length text))) q (subst (λ s. IfErr r (λ e. Tells e s us (length text))) p reported)) only
