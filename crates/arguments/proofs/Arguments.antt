-- The argument that an expression is, from what was read of it, and its parts as they are written.
use Rattle.std.specs.Prelude.{None}
use Rattle.laws.proofs.Prelude.{◌≡◌, refl, ◌∙◌, List, [], ◌∷◌, ℕ, length}
use Rattle.laws.specs.{Decoded.Decoder, code.Among.EndOf}
use Rattle.laws.proofs.Among.{part_further}
use Rattle.text.specs.Lossy.{lossy, replaced}
use Rattle.wire.specs.Number.{encode_number}
use Rattle.sheet.specs.{Tree.Node, Shape.shape}
use Rattle.report.specs.ModuleInfo as info
use Rattle.report.{specs.Encode.encode_argument, specs.Encode.encode_list, specs.Buffer.Written, specs.Buffer.more}
use Rattle.report.proofs.Buffers.{more_append, more_cons}
use Rattle.arguments.specs.Argument.{of_pieces, chain, of_chain, argument_of, one_piece, single_text, replaced_in}
use Rattle.arguments.specs.code.Views.{encode_parts, IsString, IsTemplate, IsPlus, ArgumentWithin}
use Rattle.arguments.specs.declared.argument.DynamicArgument.{DynamicArgument}
use Rattle.arguments.specs.declared.argument.DynamicArgument.TheVariants as argument

pub string_argument : {text next : List ℕ} {n : Node} {t : List ℕ} → IsString text next n t
    → (argument_of n ≡ info.string (lossy text)) × (replaced_in (single_text (shape n)) ≡ replaced text)
unfolding argument_of
string_argument r = rw r.is (refl, refl)

pub template_argument : {holes : ℕ} {s : List ℕ} {n : Node} (r : IsTemplate holes s n)
    → (argument_of n ≡ of_pieces r.pieces) × (single_text (shape n) ≡ one_piece r.pieces)
unfolding argument_of
template_argument r = rw r.is (refl, refl)

pub plus_argument : {inner : Decoder Node} {s : List ℕ} {n : Node} {t : List ℕ} → IsPlus inner s n t
    → (argument_of n ≡ of_chain (chain n)) × (single_text (shape n) ≡ None)
unfolding argument_of
plus_argument r = rw r.is (refl, refl)

-- the parts of a template, behind their number
pub more_template : (w : Written) (l : List info.DynamicTemplatePart)
    → more w (encode_argument (info.template l)) ≡ more (more (more w (2 ∷ [])) (encode_number (length l))) (encode_parts l)
unfolding encode_argument encode_list
more_template w l = more_cons w 2 _ ∙ more_append (more w (2 ∷ [])) _ _

-- what an end of the bytes holds, they hold
pub argument_further : {s t : List ℕ} → EndOf t s → (a : DynamicArgument) → ArgumentWithin t a → ArgumentWithin s a
argument_further e argument.Expr p = tt
argument_further e (argument.String text) p = part_further e p
argument_further e (argument.Template k pieces) p = tt
argument_further e (argument.Chain k x) p = tt
