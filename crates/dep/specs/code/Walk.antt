-- What the answers of the walk stand for, with the items, and what they ask.
use Rattle.std.specs.Prelude.{◌≡◌, Bool, true, false, List, ◌++◌, ◌⊎◌, ℕ, Result, Ok, Err}
use Rattle.std.specs.Prelude.{Option, Some, None}
use Rattle.std.specs.{Bool.then_some, Borrow.Bor}
use Rattle.laws.specs.Decoded.{Decoded, ok, no, on_ok}
use Rattle.laws.specs.code.Told.{Leaving}
use Rattle.wire.specs.Refusals.{number_of}
use Rattle.wire.specs.declared.refusals.Refusal.{Refusal}
use Rattle.sheet.specs.code.Commented.{Commented}
use Rattle.sheet.specs.declared.names.ImportPhase.{ImportPhase}
use Rattle.sheet.specs.declared.fields.Span.{Span}
use Rattle.sheet.specs.Tree.{Node, Nodes, Arguments, no_arguments, Properties, no_properties, Attributes}
use Rattle.sheet.specs.Nodes.{node}
use Rattle.sheet.specs.Shape.{shape, is_require}
use Rattle.sheet.specs.Walk.{walk_all, walk_of, walk_in, walk_with}
use Rattle.sheet_heads.specs.declared.node.Head as h
use Rattle.sheet_heads.specs.declared.node.Head.TheVariants as head
use Rattle.report.specs.declared.names.DynamicDependencyKind.TheVariants as dynamics
use Rattle.report.specs.Encode.{encode_list, encode_dependency}
use Rattle.report.specs.Buffer.{more}
use Rattle.attributes.specs.Attributes.{static_attributes}
use Rattle.dep_entries.specs.declared.Items.{Items}
use Rattle.dep_entries.specs.declared.CallHead.{CallHead}
use Rattle.dep_entries.specs.declared.StaticDependencyDescriptor.{StaticDependencyDescriptor}
use Rattle.dep_entries.specs.Entries.{dynamic_kind, Noted}
use Rattle.dep_entries.specs.code.Notes.{all_noted}
use Rattle.dep_entries.specs.code.Written.{types_of, Collected, items_as, with_entries, KeepsItems, static_of, entry_of_call}
use Rattle.dep.specs.Collect.{collect, noting, collect_noted}

-- the head of a call: an import, or a call of an expression
abbrev pub Calls : h.Head → Type 0
Calls x = ((phase : ImportPhase) × (x ≡ head.ImportCall phase)) ⊎ (x ≡ head.Call)

-- is a callee that is read the Name `require`?
abbrev pub names_require : Decoded Node → Bool
names_require (ok n t) = is_require (shape n)
names_require (no r) = false

-- how a call that is listed begins, by its head: an expression, which follows, has to be that Name
abbrev pub call_by : List ℕ → ℕ → Span → List ℕ → h.Head → Option CallHead
call_by source levels sp u (head.ImportCall phase) = Some (record { kind = dynamic_kind phase; span = sp })
call_by source levels sp u _ = then_some (names_require (node source levels u)) (record { kind = dynamics.Require; span = sp })

-- how many nodes stand for the callee of a call with that head
abbrev pub callees_of : h.Head → ℕ
callees_of (head.ImportCall phase) = 0
callees_of _ = 1

-- an answer of the walk: the items after it, and the bytes behind what was walked, or a refusal
abbrev pub walked_as : Items → Result (Bor (List ℕ)) Refusal → Decoded Collected
walked_as now (Ok next) = ok (items_as now) next.now
walked_as now (Err r) = no (number_of r)

-- the value that was answered, whatever is left behind it
abbrev pub answered : Decoded Collected → Option Collected
answered (ok w t) = Some w
answered (no r) = None

-- the value that is walked is written behind the items before, as `after` has it; where there is none, the items are left free
abbrev pub Walks : {A : Type 0} → (Collected → A → Collected) → Decoded A → Items → Items → Result (Bor (List ℕ)) Refusal → Type 0
Walks after x before now r = Leaving (walked_as now r ≡ on_ok (after (items_as before)) x) (KeepsItems before now)

module _ (c : Commented) where
  -- the entries of parts of a node
  abbrev pub note_all : Nodes → List Noted
  note_all = walk_all (noting c.source (types_of c))

  abbrev pub note_of : Arguments → List Noted
  note_of = walk_of (noting c.source (types_of c))

  abbrev pub note_in : Properties → List Noted
  note_in = walk_in (noting c.source (types_of c))

  abbrev pub note_with : Attributes → List Noted
  note_with = walk_with (noting c.source (types_of c))

  -- what is written after the entries of a node, and of parts of one
  abbrev pub after_node : Collected → Node → Collected
  after_node w n = with_entries w (collect_noted c.source (types_of c) n)

  abbrev pub after_nodes : Collected → Nodes → Collected
  after_nodes w ns = with_entries w (note_all ns)

  abbrev pub after_arguments : Collected → Arguments → Collected
  after_arguments w xs = with_entries w (note_of xs)

  abbrev pub after_argument : Collected → (Arguments → Arguments) → Collected
  after_argument w add = after_arguments w (add no_arguments)

  abbrev pub after_properties : Collected → Properties → Collected
  after_properties w ps = with_entries w (note_in ps)

  abbrev pub after_property : Collected → (Properties → Properties) → Collected
  after_property w add = after_properties w (add no_properties)

  abbrev pub after_with : Collected → Attributes → Collected
  after_with w a = with_entries w (note_with a)

  -- an import or an export
  abbrev pub after_import : StaticDependencyDescriptor → Collected → Attributes → Collected
  after_import d w a = with_entries w (static_of c d (static_attributes a))

  -- a call without its callee: its entry behind what it holds
  abbrev pub after_call : Option CallHead → Collected → Arguments × Nodes → Collected
  after_call d w p = with_entries w (note_of p.0 ++ (note_all p.1 ++ entry_of_call c d p.0))

  -- the number of a tree's dependencies, and their entries
  abbrev pub with_dependencies : Collected → Node → Collected
  with_dependencies w n =
      record {
        writer = w.writer;
        written = more w.written (encode_list encode_dependency (collect c.source (types_of c) n));
        loan = w.loan;
        notes = all_noted w.notes (collect_noted c.source (types_of c) n);
      }
