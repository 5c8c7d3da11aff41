use Rattle.ti_extended.proofs.WholeFileLaws as laws
use Rattle.ti_extended.proofs.laws.whole_form_reads_back.Goals as goal

pub returns : goal.returns
returns c = laws.whole_form_reads_back c.long_names_read_back.ensures c.files_have_one_entry.ensures
