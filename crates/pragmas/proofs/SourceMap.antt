-- The source map by ECMA-426: what is answered is exactly the reading of the last comment that reads, and stands in the source at its place.
use Rattle.laws.proofs.Prelude.{◌≡◌, refl, sym, true, List, ℕ}
use Rattle.laws.{specs.Codec.IfThere, proofs.Lists.if_there, proofs.Lists.middle_member}
use Rattle.text.specs.{declared.utf8.Encoding.TheVariants.Utf8, Utf8.formed}
use Rattle.ecma426.{specs.Grammar.FindsMap, specs.Reader.find_source_map, proofs.Agrees.finds_map, proofs.Boundaries.run_whole}
use Rattle.sheet.{specs.declared.comments.Comment.Comment, specs.Fit.Fit, specs.Lookups.body, specs.Sheet.Sheet, proofs.Bodies.body_formed}
use Rattle.pragmas.specs.{Readings.specifier_in, Pragmas.end_comments, Present.ExactlyLast}
use Rattle.pragmas.specs.SourceMap.{read_standard, standard_map_in, standard_map, standard_rule, MapShown}
use Rattle.pragmas.proofs.Present.{Agrees, by_finder, lastly}
use Rattle.pragmas.proofs.Texts.{capture_stands, fit_placed, in_end}

standard : (source : List ℕ) → Agrees (read_standard source) (standard_rule source)
unfolding read_standard specifier_in
standard source =
    by_finder (λ c. find_source_map (body source c)) (specifier_in source)
    (λ c k e. record { capture = k; reads = ((finds c).some k).0 e; text = refl; range = refl })
    (λ c x r. (r.capture, ((finds c).some r.capture).1 r.reads, sym (rw (← r.text, ← r.range))))
    (λ c. (λ e (k, m). (finds c).none.0 e k m, λ n. (finds c).none.1 (λ k m. n (k, m))))
  where
    finds : (c : Comment) → FindsMap (body source c) (find_source_map (body source c))
    finds c = finds_map (body source c)

pub standard_present : (t : Sheet) → ExactlyLast (standard_rule t.source) (end_comments t) (standard_map t)
unfolding standard_map_in
standard_present t = lastly (standard t.source) (end_comments t)

pub standard_shown : (t : Sheet) → formed Utf8 0 t.source ≡ true → Fit t.source t.comments → IfThere (MapShown t) (standard_map t)
standard_shown t f fit =
    if_there _ (standard_map t)
    (λ x e.
    let h = ((standard_present t).some x).0 e in
    let i = middle_member h.before h.behind h.among in
    let r = h.gives in
    let placed = fit_placed fit (in_end t f fit i) in
    let whole = run_whole (body t.source h.comment) (body_formed t.source h.comment f placed) r.reads in
    record {
      comment = h.comment;
      among = i;
      read = r;
      stands = capture_stands t.source f h.comment placed r.capture whole x r.text r.range _ r.reads.bare;
    })
