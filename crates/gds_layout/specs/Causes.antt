-- Faults of a stream and of its cells as those of its layout: want of memory is said in one way.
use Rattle.gds_elements.specs.declared.library.GdsFault.{GdsFault}
use Rattle.gds_elements.specs.declared.library.GdsFault.TheVariants.{Bad}
use Rattle.gds_elements.specs.declared.library.GdsFault.TheVariants.{NoMemory as NoMemoryInStream}
use Rattle.cell_graph.specs.declared.drafts.LinkFault.{LinkFault}
use Rattle.cell_graph.specs.declared.drafts.LinkFault.TheVariants.{NoMemory as NoMemoryInLinks}
use Rattle.gds_layout.specs.declared.layout.LayoutFault.{LayoutFault}
use Rattle.gds_layout.specs.declared.layout.LayoutFault.TheVariants.{Gds, Link, NoMemory}

abbrev pub of_stream : GdsFault → LayoutFault
of_stream (Bad number index offset) = Gds (Bad number index offset)
of_stream NoMemoryInStream = NoMemory

abbrev pub of_links : LinkFault → LayoutFault
of_links NoMemoryInLinks = NoMemory
of_links f = Link f
