use Rattle.key_codec.proofs.Fits.{says_fit_sig_info}
use Rattle.key_codec.proofs.SigLaws.{says_sig_info, says_sig_only}
use Rattle.key_codec.proofs.sig_info.read_sig_info.Goals as goal

pub returns-clause-found : goal.returns-clause-found
returns-clause-found c = says_sig_info c.args.item.now c.sig_info_at.result c.sig_info_at.ensures

pub returns-clause-only : goal.returns-clause-only
returns-clause-only c sig is e = says_sig_only c.args.item.now c.sig_info_at.result sig c.sig_info_at.ensures is e

pub returns-clause-fit : goal.returns-clause-fit
returns-clause-fit c = says_fit_sig_info c.args.item.now c.sig_info_at.result c.sig_info_at.ensures
