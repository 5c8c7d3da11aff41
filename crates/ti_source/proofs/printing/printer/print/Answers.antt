use Rattle.ti_source.proofs.printing.printer.print.Goals as goal

pub returns-clause-reads : goal.returns-clause-reads
returns-clause-reads c = c.printed_reads_back.ensures c.args.entry.now c.text_of.ensures.described
