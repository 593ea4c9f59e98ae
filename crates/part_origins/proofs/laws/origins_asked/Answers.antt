use Rattle.part_origins.specs.Laws.{LeftLaw, WrittenLaw}
use Rattle.part_origins.proofs.laws.origins_asked.Goals as goal

written_law : WrittenLaw
written_law nl is order = (
  record {
    within = is.sound.nets;
    called = is.sound.calls;
    lower = order;
    pins = λ c i n pin. (is.normal c pin.0 pin.1).pins i n pin.2;
  },
  is.sound.names,
)

left_law : LeftLaw
left_law left right is = let good = is.sides.left_good.1 in record {
  within = good.within;
  called = good.called;
  lower = is.order;
  pins = good.pins;
}

pub returns : goal.returns
returns c = record { written = written_law; left = left_law }
