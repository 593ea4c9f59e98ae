use Rattle.std.proofs.Common.{refl, codes, string_bytes}
use Rattle.lvs_run.specs.Answers.{drawn_of}
use Rattle.lvs_run.specs.Words.{file_at}
use Rattle.lvs_run.proofs.Adding.{first_file}
use Rattle.lvs_run.proofs.making.shapes_output.Goals as goal

pub returns : goal.returns
returns c = λ l r file. let shapes = c.args.shapes in record {
  done = drawn_of (string_bytes c.args.path) shapes;
  files = first_file _ _ (file_at (string_bytes c.args.path) shapes.text.items) c.new-files.ensures.items c.in_ok-push_file.ensures;
  apart = (tt, tt);
  is = (
    refl,
    record {
      text = shapes.text.items;
      cells = shapes.cells;
      rectangles = shapes.rectangles;
      file = file;
      whole = refl;
    },
  );
  line = c.in_ok-line.ensures (codes "match");
}
