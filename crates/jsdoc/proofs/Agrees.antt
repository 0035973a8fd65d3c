-- The grammar and the parsers agree: a parser answers exactly the readings.
use Rattle.laws.proofs.Prelude.{◌≡◌, ◌↔◌, ℕ, arith}
use Rattle.std.specs.Prelude.{Some}
use Rattle.analysis.specs.Mode.{Mode}
use Rattle.jsdoc.specs.Grammar.{Bytes, Brace, Declaration}
use Rattle.jsdoc.specs.Parsed.{Parsed, ok, backtrace, Parser, value}
use Rattle.jsdoc.specs.Reader.{Hit, hit, parse_jsdoc_dynamic_import, parse_jsdoc_import_decl}
use Rattle.jsdoc.proofs.{Braces.brace_sound, Braces.brace_complete, Declarations.decl_sound, Declarations.decl_complete}

value_some : {A : Type 0} {a : A} (o : Parsed A) → value o ≡ Some a → (t : Bytes) × (o ≡ ok a t)
value_some (ok b t) e = (t, (cc))
value_some backtrace e = let z : ◌≡◌ {A = ℕ} 0 1 = cc in absurd (omega arith)

abbrev pub Agrees : (Bytes → Bytes → Bytes → Mode → Type 0) → Parser Hit → Type 0
Agrees R p = (s q e : Bytes) (m : Mode) → R s q e m ↔ (value (p s) ≡ Some (hit q e m))

pub brace_agrees : Agrees Brace parse_jsdoc_dynamic_import
brace_agrees s q e m = (λ r. rw (brace_complete r), λ h. let (t, i) = value_some (parse_jsdoc_dynamic_import s) h in brace_sound s q e m t i)

pub declaration_agrees : Agrees Declaration parse_jsdoc_import_decl
declaration_agrees s q e m = (λ r. rw (decl_complete r).1, λ h. let (t, i) = value_some (parse_jsdoc_import_decl s) h in decl_sound s q e m t i)
