use Rattle.laws.proofs.Prelude.{append_assoc}
use Rattle.report.specs.Encode.{encode}
use Rattle.citation.specs.Citation.{cite_reference, cite_jsdoc, lines}
use Rattle.citation.proofs.{Printing.both, Printing.each_plain}
use Rattle.citation.proofs.cite.Citing.cite_lines.Goals as goal

pub returns-clause-answer : goal.returns-clause-answer
unfolding encode lines
returns-clause-answer c =
    let d = c.cite_list-d.ensures in
    let r = c.cite_list-r.ensures in
    let s = c.cite_optional-s.ensures in
    let x = c.cite_optional-x.ensures in
    let y = c.cite_optional-y.ensures in
    let j = c.cite_list-j.ensures in
    let u = c.cite_optional-m.ensures in
    λ m v t e.
    let numbers = c.args.self.now.numbers.now in
    let (_, e) = c.read_flag.ensures.answer m.is_script tt _ (simp append_assoc at e) in
    let (d, e) = d.answer m.dependencies v.dependencies _ e in
    let (r, e) = r.answer m.ts_references v.ts_references _ e in
    let r = rw (each_plain cite_reference numbers m.ts_references) at r in
    let (s, e) = s.answer m.self_types_specifier v.self_types_specifier _ e in
    let (x, e) = x.answer m.jsx_import_source v.jsx_import_source _ e in
    let (y, e) = y.answer m.jsx_import_source_types v.jsx_import_source_types _ e in
    let (j, e) = j.answer m.jsdoc_imports v.jsdoc_imports _ e in
    let j = rw (each_plain cite_jsdoc numbers m.jsdoc_imports) at j in
    let (u, e) = u.answer m.source_map_url v.source_map_url t e in
    (simp append_assoc at (both (both (both (both (both (both d r) s) x) y) j) u), e)
