-- What is answered to an input.
use Rattle.std.proofs.Common.{◌≡◌, ◌⊎◌, ℕ, ◌<◌, ◌≤◌, List, [], ◌++◌, length, take, inl, inr, Option, None, Some, IfSome, Result, Ok, Err, sym, subst, arith}
use Rattle.std.specs.Prelude.{IfErr, IsErrAnd}
use Rattle.std.specs.Io.KnownBytes.{Consumes, IsAtEnd}
use Rattle.std.proofs.lemmas.Bool.{cases_lt}
use Rattle.std.proofs.lemmas.Grind.{common_steps}
use Rattle.litmus_tree.specs.Tree.{Litmus}
use Rattle.litmus_c.specs.Reads.{Reads, IsRefused}
use Rattle.litmus_c.specs.declared.fault.TestFault.{TestFault}
use Rattle.litmus_c.specs.declared.fault.TestFault.TheVariants as of_test
use Rattle.cat_syntax.specs.Reads.{Reads as ReadsCat, IsRefused as IsRefusedCat}
use Rattle.cat_tree.specs.Tree.{File}
use Rattle.cat_syntax.specs.declared.fault.CatFault.{CatFault}
use Rattle.cat_syntax.specs.declared.fault.CatFault.TheVariants as of_cat
use Rattle.cat_model.specs.Faults.{IsCause}
use Rattle.cat_model.specs.Models.{Assembly}
use Rattle.cat_model.specs.declared.fault.ModelFault.{ModelFault}
use Rattle.cat_model.specs.declared.fault.ModelFault.TheVariants as of_model
use Rattle.program.specs.declared.summary.OneFault.{OneFault}
use Rattle.program.specs.declared.summary.OneFault.TheVariants.{Read, Write}
use Rattle.candidates.specs.Faults.{IsSpaceFault}
use Rattle.candidates.specs.declared.fault.SpaceFault.{SpaceFault}
use Rattle.candidates.specs.declared.fault.SpaceFault.TheVariants as of_space
use Rattle.program.specs.Faults.{test_fault, cat_fault, model_fault, space_fault}
use Rattle.program.specs.Inputs.{text_of, main_name, files_with, GivesModel, IsRefusal, IsFaultOf}

-- What is read up to a limit is the front of the input.

shorter : (n : ℕ) (xs items ys : List ℕ) → xs ≡ items ++ ys → ys ≡ [] → length items ≤ n → take n xs ≡ items
shorter n xs items ys e none most = grind (arith, common_steps)

full : (n : ℕ) (xs items ys : List ℕ) → xs ≡ items ++ ys → n ≡ length items → take n xs ≡ items
full n xs items ys e same = grind (arith, common_steps)

front_is : (n : ℕ) (xs items ys : List ℕ) → xs ≡ items ++ ys → length items ≤ n → (length items < n → ys ≡ []) → take n xs ≡ items
front_is n xs items ys e most end =
    elim (cases_lt (length items) n) [ inl h ↦ shorter n xs items ys e (end h) most | inr h ↦ full n xs items ys e (omega arith) ]

pub text_is : (old new : Option (List ℕ)) (items : List ℕ) → Consumes old new items → length items ≤ 65537 → (length items < 65537 → IsAtEnd new) → IfSome old (λ input. text_of input ≡ items)
text_is None new items c most end = tt
text_is (Some xs) None items c most end = absurd c
text_is (Some xs) (Some ys) items c most end = front_is 65537 xs items ys c most end

pub of_text : (old : Option (List ℕ)) (items : List ℕ) (P : List ℕ → Type 0) → IfSome old (λ input. text_of input ≡ items) → P items → IfSome old (λ input. P (text_of input))
of_text None items P e p = tt
of_text (Some xs) items P e p = subst P (sym e) p

-- Each fault that a lower layer gives, as the fault of the texts that it is.

told : {A : Type 0} (text cat : List ℕ) (f : OneFault) (r : Result A OneFault) → IsErrAnd r (λ e. e ≡ f) → IsRefusal text cat f → IfErr r (IsRefusal text cat)
told text cat f (Ok x) is p = tt
told text cat f (Err e) is p = let P : OneFault → Type 0 = λ d. IsRefusal text cat d in subst P (sym is) p

untested : (text cat : List ℕ) (f : TestFault) → ((t : Litmus) → Reads text t → f ≡ of_test.NoMemory) → IsRefused text f → IsRefusal text cat (test_fault f)
untested text cat of_test.NoMemory only cause = tt
untested text cat f only cause = (λ t h. absurd (cc (only t h)), cause)

pub test_refusal : {A : Type 0} (text cat : List ℕ) (f : TestFault) (r : Result A OneFault) → IsErrAnd r (λ e. e ≡ test_fault f) → ((t : Litmus) → Reads text t → f ≡ of_test.NoMemory) → IsRefused text f → IfErr r (IsRefusal text cat)
test_refusal text cat f r is only cause = told text cat (test_fault f) r is (untested text cat f only cause)

unread : (text cat : List ℕ) (t : Litmus) (f : CatFault) → Reads text t → ((g : File) → ReadsCat cat g → f ≡ of_cat.NoMemory) → IsRefusedCat cat f → IsRefusal text cat (cat_fault f)
unread text cat t of_cat.NoMemory reads only cause = tt
unread text cat t f reads only cause = (t, reads, ((λ g h. absurd (cc (only g h))), cause))

pub cat_refusal : {A : Type 0} (text cat : List ℕ) (t : Litmus) (f : CatFault) (r : Result A OneFault) → IsErrAnd r (λ e. e ≡ cat_fault f) → Reads text t → ((g : File) → ReadsCat cat g → f ≡ of_cat.NoMemory) → IsRefusedCat cat f → IfErr r (IsRefusal text cat)
cat_refusal text cat t f r is reads only cause = told text cat (cat_fault f) r is (unread text cat t f reads only cause)

unmodelled : (text cat : List ℕ) (t : Litmus) (g : File) (f : ModelFault) → Reads text t → ReadsCat cat g → (f ≡ of_model.NoMemory) ⊎ IsCause f (files_with g) main_name → IsRefusal text cat (model_fault f)
unmodelled text cat t g of_model.NoMemory reads file cause = tt
unmodelled text cat t g f reads file (inl none) = absurd (cc none)
unmodelled text cat t g f reads file (inr cause) = (t, reads, (g, file, cause))

pub model_refusal : {A : Type 0} (text cat : List ℕ) (t : Litmus) (g : File) (f : ModelFault) (r : Result A OneFault) → IsErrAnd r (λ e. e ≡ model_fault f) → Reads text t → ReadsCat cat g → (f ≡ of_model.NoMemory) ⊎ IsCause f (files_with g) main_name → IfErr r (IsRefusal text cat)
model_refusal text cat t g f r is reads file cause = told text cat (model_fault f) r is (unmodelled text cat t g f reads file cause)

unspaced : (text cat : List ℕ) (t : Litmus) (m : Assembly) (f : SpaceFault) → Reads text t → GivesModel cat m → IsSpaceFault t f → IsRefusal text cat (space_fault f)
unspaced text cat t m of_space.NoMemory reads gives is = tt
unspaced text cat t m f reads gives is = (t, reads, (m, gives, is))

pub space_refusal : {A : Type 0} (text cat : List ℕ) (t : Litmus) (m : Assembly) (f : SpaceFault) (r : Result A OneFault) → IsErrAnd r (λ e. e ≡ space_fault f) → Reads text t → GivesModel cat m → IsSpaceFault t f → IfErr r (IsRefusal text cat)
space_refusal text cat t m f r is reads gives fault = told text cat (space_fault f) r is (unspaced text cat t m f reads gives fault)

pub fault_of : (text cat : List ℕ) (e : OneFault) → IsRefusal text cat e → IsFaultOf text cat e
fault_of text cat Read p = tt
fault_of text cat Write p = tt
fault_of text cat e p = p

pub read_refusal : {A : Type 0} (old : Option (List ℕ)) (items cat : List ℕ) (f : OneFault) (r : Result A OneFault) → IsErrAnd r (λ e. e ≡ f) → IfSome old (λ input. text_of input ≡ items) → IsRefusal items cat f → IfErr r (λ e. IfSome old (λ input. IsFaultOf (text_of input) cat e))
read_refusal old items cat f (Ok x) is text p = tt
read_refusal old items cat f (Err e) is text p =
    let P : OneFault → Type 0 = λ d. IsFaultOf items cat d in
    of_text old items (λ bytes. IsFaultOf bytes cat e) text (subst P (sym is) (fault_of items cat f p))
