-- What the code of the entries writes: the entries behind what stands in the buffer and the notes.
use Rattle.std.specs.Prelude.{◌≡◌, ℕ, length}
use mathlib.Core.List.{List, [], ◌∷◌, flat_map}
use Rattle.std.specs.Prelude.{Option, Some, None}
use Rattle.std.specs.Borrow.{GName}
use Rattle.text.specs.Lossy.{replaced}
use Rattle.sheet.specs.declared.fields.Span.{Span}
use Rattle.sheet.specs.Tree.{Quoted, Arguments}
use Rattle.sheet.specs.code.Commented.{Commented}
use Rattle.sheet_heads.specs.code.Views.{quoted_of}
use Rattle.report.specs.ModuleInfo.{SpecifierWithRange, ImportAttributes, DynamicArgument, dynamic}
use Rattle.report.specs.Encode.{encode_dependency}
use Rattle.report.specs.Range.{range_of}
use Rattle.report.specs.Buffer.{Written, written_as, more, Keeps}
use Rattle.pragmas.specs.Pragmas.{types_in}
use Rattle.arguments.specs.Argument.{replaced_in}
use Rattle.dep_entries.specs.declared.Items.{Items}
use Rattle.dep_entries.specs.declared.CallHead.{CallHead}
use Rattle.dep_entries.specs.declared.StaticDependencyDescriptor.{StaticDependencyDescriptor}
use Rattle.dep_entries.specs.declared.DynamicDependencyDescriptor.{DynamicDependencyDescriptor}
use Rattle.dep_entries.specs.Entries.{first_text, text_in, Noted, beside, static_entry, call_entry, module_entry}
use Rattle.dep_entries.specs.code.Notes.{all_noted}

-- the types that the comments of a source give
abbrev pub types_of : Commented → ℕ → Option SpecifierWithRange
types_of c = types_in c.source c.comments c.groups

-- what is written: the report so far, and the notes beside it, by the name of their loan
pub record Collected : Type 0 where
  pub writer : GName
  pub written : Written
  pub loan : GName
  pub notes : List ℕ

unfoldable pub items_as : Items → Collected
items_as i = record { writer = i.writer.ghost_name; written = written_as i.writer.now; loan = i.notes.ghost_name; notes = i.notes.now }

-- the entries of dependencies written behind what stands there, and their rows noted
unfoldable pub with_entries : Collected → List Noted → Collected
with_entries c l =
    record { writer = c.writer; written = more c.written (flat_map (λ e. encode_dependency e.entry) l); loan = c.loan; notes = all_noted c.notes l }

-- the items before and after entries are added
abbrev pub Adds : Items → Items → List Noted → Type 0
Adds before after l = items_as after ≡ with_entries (items_as before) l

-- the items before and after what is left free: the buffer and the notes are the same, and as long
pub record KeepsItems (before after : Items) : Type 0 where
  pub lent : after.writer.ghost_name ≡ before.writer.ghost_name
  pub writer : Keeps before.writer.now after.writer.now
  pub loan : after.notes.ghost_name ≡ before.notes.ghost_name
  pub size : length after.notes.now ≡ length before.notes.now

module _ (c : Commented) where
  -- the entry of a static dependency, with its attributes
  abbrev pub static_of : StaticDependencyDescriptor → ImportAttributes → List Noted
  static_of d a =
      let x = quoted_of d.specifier in
      record {
        entry = static_entry c.source (types_of c) d.kind d.span x d.is_side_effect a;
        start = d.span.start;
        number = replaced x.text;
      }
      ∷ []

  -- the entry of a dynamic one, with its argument, its attributes and the number of surrogates of its single text
  abbrev pub dynamic_of : DynamicDependencyDescriptor → DynamicArgument → ImportAttributes → ℕ → List Noted
  dynamic_of d v a replacements =
      record {
        entry =
            dynamic
            (record {
              kind = d.kind;
              types_specifier = types_of c d.start;
              argument = v;
              argument_range = range_of c.source d.argument_range;
              import_attributes = a;
            });
        start = d.start;
        number = replacements;
      }
      ∷ []

  -- the entry of a module declaration, by its String
  abbrev pub module_of : Span → Option Quoted → List Noted
  module_of sp x = beside sp.start (replaced_in (text_in x)) (module_entry c.source (types_of c) sp x)

  -- the entry of a call, if it is listed
  abbrev pub entry_of_call : Option CallHead → Arguments → List Noted
  entry_of_call None xs = []
  entry_of_call (Some d) xs = beside d.span.start (replaced_in (first_text xs)) (call_entry c.source (types_of c) d.kind d.span xs)
