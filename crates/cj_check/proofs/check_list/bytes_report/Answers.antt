-- bytes_report: its ensures, where the text is no manifest without a fault.
use Rattle.cj_check.proofs.check_list.bytes_report.Goals as goal

pub returns-in-Err : goal.returns-in-Err
returns-in-Err c = c.refused_item.ensures c.args.seen.now
