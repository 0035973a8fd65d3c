-- How far the entries of the root's children reach, child by child.
use Rattle.laws.proofs.Prelude.{◌≡◌, refl, sym, ap, ◌∙◌, List, [], ℕ, zero, suc, ◌+◌, ◌-◌, ◌≤◌, ◌<◌, add-one, arith, sub-zero}
use Rattle.laws.specs.Decoded.{ok, on_ok, Decoder}
use Rattle.laws.proofs.Answers.{Yields, ends, behind}
use Rattle.laws.proofs.Decoding.{then_ok, on_ok_ok}
use Rattle.sheet.specs.{declared.fields.Span.Span, Walk.walk_all, Walked.counting, Walked.entries}
use Rattle.sheet.specs.Tree.{Node, other, Nodes, none, more, Attributes}
use Rattle.sheet.specs.Nodes.{many, piece, nodes, properties, call_rest, type_rest, node, attributes_object}
use Rattle.sheet_heads.specs.{declared.node.Head.Head, code.Rest.behind as object_behind, code.Rest.rest}
use Rattle.sheet_heads.specs.declared.node.Head.TheVariants as head
use Rattle.sheet_heads.specs.code.Head as heads
use Rattle.sheet_heads.{specs.code.Views.head_of, proofs.ByHead.behind_head, proofs.Many.many_next, proofs.Many.many_end}
use Rattle.sheet_nodes.specs.code.Tallies.{NodeTally, node_tally}
use Rattle.sheet_nodes.specs.code.Reach.{Reaches, quiet, past, ReachesIn, furthest}
use Rattle.sheet_nodes.proofs.Loops.{node_item}

-- the nodes ns, of which all but so many are to come: how far entries reach in ns, by how far they reach in those
pub record Kept (done reach : ℕ) (coming ns : Nodes) : Type 0 where
  pub on : (k : ℕ) → Reaches k coming → Reaches (done + k) ns
  pub here : walk_all counting coming ≡ 0 → Reaches reach ns

kept_first : (ns : Nodes) → Kept 0 0 ns ns
kept_first ns = record { on = λ k r. let same : 0 + k ≡ k = omega arith in rw same r; here = λ e. quiet e }

kept_step : {done reach : ℕ} {n : Node} {from coming ns : Nodes} → Kept done reach from ns → more n coming ≡ from
    → {here e : ℕ} → here ≡ suc done → e ≡ entries n → Kept here (furthest reach e here) coming ns
kept_step {done} {reach} {n} {from} {coming} {ns} before first h found =
    rw (h, found)
    (record {
      on = λ k r. let same : suc done + k ≡ done + suc k = omega arith in rw same (kept.on (suc k) (past r));
      here = go (entries n) kept.here;
    })
  where
    kept : Kept done reach (more n coming) ns
    kept = rw first before

    one_more : suc done ≡ done + 1
    one_more = omega arith

    go : (e : ℕ) → (e + walk_all counting coming ≡ 0 → Reaches reach ns) → walk_all counting coming ≡ 0 → Reaches (furthest reach e (suc done)) ns
    go zero last none_coming = last (omega arith)
    go (suc e) last none_coming = rw one_more (kept.on 1 (past (quiet none_coming)))

-- what the loop over children keeps, with those from v on to come
module _ (inner : Decoder Node) (count : ℕ) (u : List ℕ) where
  unfoldable pub Reached : ℕ → ℕ → List ℕ → Type 0
  Reached done reach v = (ns : Nodes) (t : List ℕ) → nodes inner count u ≡ ok ns t
      → (coming : Nodes) × (nodes inner (count - done) v ≡ ok coming t) × Kept done reach coming ns

  pub reached_first : Reached 0 0 u
  unfolding Reached
  reached_first ns t e = (ns, rw sub-zero e, kept_first ns)

  module _ (done reach : ℕ) (v : List ℕ) (so_far : Reached done reach v) where
    pub reached_step : {j : NodeTally} {w : List ℕ} → done < count → on_ok node_tally (inner v) ≡ ok j w
        → Reached (done + 1) (furthest reach j.entries (done + 1)) w
    unfolding nodes Reached
    reached_step {j} h e ns t whole =
        let (coming, others, kept) = so_far ns t whole in
        let (n, is, gives) = on_ok_ok node_tally (inner v) e in
        let (m, behind, first) = many_next none (node_item inner) (count - done) v (omega arith) (ap (on_ok (λ n l. more n l)) is) others in
        let down : count - (done + 1) ≡ count - done - 1 = omega arith in
        let found : j.entries ≡ entries n = ap (λ j. j.entries) (sym gives) in
        (m, rw down behind, kept_step kept first (add-one done) found)

    pub reached_end : count ≤ done → {ns : Nodes} {t : List ℕ} → nodes inner count u ≡ ok ns t → Reaches reach ns
    unfolding nodes Reached
    reached_end h {ns} {t} whole =
        let (coming, others, kept) = so_far ns t whole in
        kept.here (ap (walk_all counting) (many_end none (node_item inner) (count - done) v (omega arith) others))

-- a head of a variant besides Other
abbrev NoOther : Head → Type 0
NoOther x = (n : ℕ) → x ≡ head.Other n → ⊥

-- of a node that is no Other nothing is said
unlike : {n : Node} → ((sp : Span) (ns : Nodes) → n ≡ other sp ns → ◌≡◌ {A = ℕ} 0 1) → ReachesIn 0 n
unlike differs sp ns e = let z = differs sp ns e in absurd (omega arith)

module _ (source : List ℕ) (levels : ℕ) (sp : Span) where
  abbrev inner : Decoder Node
  inner = node source levels

  abbrev object' : Decoder Attributes
  object' = attributes_object source levels

  no_other : (x : Head) → NoOther x → Yields (ReachesIn 0) (rest source levels (sp, head_of x))
  no_other (head.Other n) k = absurd (k n refl)
  no_other (head.String x) k = ends (unlike λ sp ns e. cc)
  no_other (head.Name x) k = ends (unlike λ sp ns e. cc)
  no_other (head.Template holes) k = behind (many [] piece (holes + 1)) λ ps. behind (nodes inner holes) λ ns. ends (unlike λ sp ns e. cc)
  no_other (head.Binary plus) k = behind inner λ l. behind inner λ r. ends (unlike λ sp ns e. cc)
  no_other (head.Object n) k = behind (properties inner n) λ ps. ends (unlike λ sp ns e. cc)
  no_other (head.ImportCall phase) k = behind (call_rest inner source) λ p. ends (unlike λ sp ns e. cc)
  no_other head.Call k = behind inner λ f. behind (call_rest inner source) λ p. ends (unlike λ sp ns e. cc)
  no_other (head.Import d) k = behind (object_behind d.has_object object') λ a. ends (unlike λ sp ns e. cc)
  no_other (head.NamedExport type_only) k = ends (unlike λ sp ns e. cc)
  no_other (head.ExportFrom d) k = behind (object_behind d.has_object object') λ a. ends (unlike λ sp ns e. cc)
  no_other (head.ExportAll d) k = behind (object_behind d.has_object object') λ a. ends (unlike λ sp ns e. cc)
  no_other (head.ImportType x n) k = behind (type_rest inner object' n) λ p. ends (unlike λ sp ns e. cc)
  no_other head.ImportEquals k = ends (unlike λ sp ns e. cc)
  no_other (head.ImportRequire d) k = ends (unlike λ sp ns e. cc)
  no_other (head.Module x n) k = behind (nodes inner n) λ ns. ends (unlike λ sp ns e. cc)

-- the root by its head
module _ (source u : List ℕ) (levels : ℕ) (x : Head) {sp : Span} {w : List ℕ} {n : Node} {t : List ℕ}
    (read : heads.head source levels u ≡ ok (sp, head_of x) w) (whole : node source levels u ≡ ok n t) where
  follows : rest source (levels - 1) (sp, head_of x) w ≡ ok n t
  follows = behind_head source levels u whole read

  pub children_are : {count : ℕ} → x ≡ head.Other count
      → (ns : Nodes) × (nodes (node source (levels - 1)) count w ≡ ok ns t) × (n ≡ other sp ns)
  children_are {count} h =
      let (ns, v, read, is) = then_ok (nodes (node source (levels - 1)) count w) (λ ns v. ok (other sp ns) v) (rw h at follows) in
      let end : v ≡ t = cc in
      (ns, read ∙ ap (ok ns) end, cc)

  pub other_reaches : {count reach : ℕ} → x ≡ head.Other count
      → ((ns : Nodes) (t : List ℕ) → nodes (node source (levels - 1)) count w ≡ ok ns t → Reaches reach ns) → ReachesIn reach n
  other_reaches h reaches sp' ns' e =
      let (ns, read, made) = children_are h in
      let same : ns ≡ ns' = cc in
      rw (← same) (reaches ns t read)

  pub unlike_reaches : NoOther x → ReachesIn 0 n
  unlike_reaches k = rw follows at ((no_other source (levels - 1) sp x k).at w)

pub ruleset reaching = (reached_first, reached_step, reached_end)

-- a root that is an Other, and any other
pub ruleset root_reaches = (other_reaches, unlike_reaches)
