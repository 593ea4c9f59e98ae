use Rattle.std.proofs.Common.{◌≡◌, ◌+◌, ℕ, length, true, None, Some, refl, ap, sym, ◌∙◌}
use Rattle.gds_records.specs.Records.{Rec, Records}
use Rattle.gds_grammar.specs.Order.{can_go_on}
use Rattle.gds_elements.specs.Bounds.{is_line}
use Rattle.gds_elements.specs.Data.{is_straight}
use Rattle.gds_elements.specs.Reading.{Stands, rec}
use Rattle.gds_elements.specs.declared.stream.Stream.{Stream}
use Rattle.gds_elements.proofs.Lines.{straight}
use Rattle.gds_elements.proofs.Step.{Held, next_place, in_order, not_finished, by_content, bytes_more}
use Rattle.gds_elements.proofs.stream.Stream.take.Goals as goal

held : (before : Records) (s : Stream) → Stands before s → Held before s.kept.element.start s.last s.kept.element.points.items
held before s h = record { start_is = h.kept.element.start; last_is = h.last; points_are = h.kept.element.points }

-- the reader's points so far have no slanted edge
so_far : (before : Records) (s : Stream) → Stands before s → is_line s.kept.element.start ≡ true → is_straight s.kept.element.points.items ≡ true
so_far before s h line = ap is_straight h.kept.element.points ∙ straight before h.passes (ap is_line (sym h.kept.element.start) ∙ line)

pub returns-then-is_unfinished-clause-reading : goal.returns-then-is_unfinished-clause-reading
returns-then-is_unfinished-clause-reading c = λ before h proper.
    let r : Rec = rec c.args.kind c.args.form c.args.body.now in
    let e = c.args.self.now.kept.element in
    let order : can_go_on before c.args.kind ≡ true = in_order before c.args.self.now.place c.in-Some.place c.args.kind h.place c.in-Some.ensures in
    not_finished before r e.start c.args.self.now.last e.points.items order (held before c.args.self.now h) (sym c.is_unfinished.ensures ∙ c.if-is_unfinished.true)

pub returns-in-Some-content_fault-clause-reading : goal.returns-in-Some-content_fault-clause-reading
returns-in-Some-content_fault-clause-reading c = λ before h proper.
    let r : Rec = rec c.args.kind c.args.form c.args.body.now in
    let e = c.args.self.now.kept.element in
    let order : can_go_on before c.args.kind ≡ true = in_order before c.args.self.now.place c.in-Some.place c.args.kind h.place c.in-Some.ensures in
    let first = sym c.is_unfinished.ensures ∙ c.if-is_unfinished.false in
    by_content before r e.start c.args.self.now.last e.points.items e.placing.columns e.placing.rows (Some c.in-Some-content_fault.number) order (held before c.args.self.now h) first
    (sym c.is_plain.ensures ∙ c.if-not-is_plain.false) h.kept.element.placing.columns h.kept.element.placing.rows (c.in-Some-content_fault.ensures (so_far before c.args.self.now h))

pub returns-clause-reading : goal.returns-clause-reading
returns-clause-reading c = λ before h proper.
    let r : Rec = rec c.args.kind c.args.form c.args.body.now in
    let e = c.args.self.now.kept.element in
    let order : can_go_on before c.args.kind ≡ true = in_order before c.args.self.now.place c.in-Some.place c.args.kind h.place c.in-Some.ensures in
    let clean : c.content_fault.result ≡ None = c.in_default-content_fault.is in
    let first = sym c.is_unfinished.ensures ∙ c.if-is_unfinished.false in
    record {
      place = next_place before c.args.self.now.place c.in-Some.place r h.place c.in-Some.ensures;
      count = ap (λ (n : ℕ). n + 1) h.count;
      offset = ap (λ (n : ℕ). n + (length c.args.body.now + 4)) h.offset ∙ sym (bytes_more before r);
      last = refl;
      ended = refl;
      passes = (
        h.passes,
        proper,
        by_content before r e.start c.args.self.now.last e.points.items e.placing.columns e.placing.rows c.content_fault.result order (held before c.args.self.now h) first
            (sym c.is_plain.ensures ∙ c.if-not-is_plain.false) h.kept.element.placing.columns h.kept.element.placing.rows (c.content_fault.ensures (so_far before c.args.self.now h)) ∙ clean,
      );
      kept = c.in_ok-take_record.ensures.holds before c.args.form h.kept;
    }
