use Rattle.directory.proofs.PagingLaw.{every_paging_lem}
use Rattle.directory.proofs.paging.every_paging.Goals as goal

pub returns : goal.returns
returns c = every_paging_lem
